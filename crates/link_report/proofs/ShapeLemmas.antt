-- What a recorder was made for tells the queue and the width of its bins, or of how many events it makes packets.
use Rattle.std.proofs.Common.{◌≡◌, ℕ, [], ◌∷◌, get_or, ap, refl}
use Rattle.journal_core.specs.MadeFor.{MadeFor}
use Rattle.link_report.specs.Binnings.{Binning, binning_shape, queue_number, shape_of}
use Rattle.link_report.specs.Gatherings.{Gathering, gathering_shape}
use Rattle.link_report.specs.declared.table.Queue.{Queue}
use Rattle.link_report.specs.declared.table.Queue.TheVariants.{FqCodel, Fifo}

-- the number of a queue tells it
same_number : (a b : Queue) → queue_number a ≡ queue_number b → a ≡ b
same_number FqCodel FqCodel e = refl
same_number FqCodel Fifo e = absurd cc
same_number Fifo FqCodel e = absurd cc
same_number Fifo Fifo e = refl

pub queue_of_shape : (b : Binning) (queue : Queue) (every : ℕ) → binning_shape b ≡ shape_of queue every → b.queue ≡ queue
queue_of_shape b queue every e = same_number b.queue queue (ap (λ (m : MadeFor). get_or m.numbers 0 0) e)

pub every_of_shape : (b : Binning) (queue : Queue) (every : ℕ) → binning_shape b ≡ shape_of queue every → b.every ≡ every
every_of_shape b queue every e = ap (λ (m : MadeFor). get_or m.numbers 1 0) e

-- how many events it makes packets of
pub most_of_shape : (a b : Gathering) → gathering_shape a ≡ gathering_shape b → a.most ≡ b.most
most_of_shape a b e = ap (λ (m : MadeFor). get_or m.numbers 0 0) e
