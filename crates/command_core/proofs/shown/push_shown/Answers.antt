use Rattle.std.proofs.Common.{string_bytes, subst, sym}
use Rattle.std.proofs.lemmas.Str.{IsUtf8-string_bytes}
use Rattle.command_core.specs.Shown.{IsShown}
use Rattle.command_core.proofs.ShownLemmas.{shown_more}
use Rattle.command_core.proofs.shown.push_shown.Goals as goal

pub returns : goal.returns
returns c =
    let more = shown_more (string_bytes c.args.shown.now) c.args.c (IsUtf8-string_bytes c.args.shown.now) c.ranges.c.0 c.requires in
    λ was. subst IsShown (sym c.in_ok-push.ensures.bytes) (more was)
