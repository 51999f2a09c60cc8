mod CommandLineLemmas
mod ShownLemmas
