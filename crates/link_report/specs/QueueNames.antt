use Rattle.std.specs.Prelude.{ℕ, List, codes}
use Rattle.link_report.specs.declared.table.Queue.{Queue}
use Rattle.link_report.specs.declared.table.Queue.TheVariants.{FqCodel, Fifo}

-- a queue's name
abbrev pub queue_name : Queue → List ℕ
queue_name FqCodel = codes "fq_codel"
queue_name Fifo = codes "fifo"
