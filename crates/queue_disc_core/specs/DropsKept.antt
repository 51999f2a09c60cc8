-- What holds of the recorder's fields.
use Rattle.std.specs.Prelude.{◌≡◌, ◌<◌, ◌≤◌, List, take, vec_capacity}
use Rattle.queue_disc_core.specs.declared.answers.Dropped.{Dropped}
use Rattle.queue_disc_core.specs.declared.drops.Drops.TheInside.{Inside}
use Rattle.queue_disc_core.specs.Drops.{AreRecent, DropTale}

-- what it was told
abbrev pub drop_tale_of : Inside → DropTale
drop_tale_of d = record {
  events = d.told.items;
  sent = d.sent.items;
  lost = d.lost.items;
  room = d.told.room;
  made_for = d.most;
}

-- What is kept are the first ones of the drops since the last acceptance, and there is memory for as many as it was
-- made for.
pub record AreKept (d : Inside) : Type 0 where
  pub all : List Dropped
  pub recent : AreRecent all d.told.items d.lost.items
  pub first : d.drops.items ≡ take d.most all
  pub some : 0 < d.most
  pub fit : d.most ≤ vec_capacity d.drops
