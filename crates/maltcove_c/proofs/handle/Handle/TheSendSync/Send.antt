-- What a handle owns may go to another thread: a box of a queue disc, or nothing.
use base.Shift.{Keyless}
use mir.Raw.{raw}
use denote.Memory.{lone}
use denote.RattleType.{RattleType}
use denote.RawPtr.{Ptr}
use denote.Builtin.{RawPtr}
use denote.Struct.Owning.{fields, shape, to}
use denote.Struct.Struct.{exits_of}
use denote.Param.Send.{AllSend, IsSend, owning_send, sendable, struct_send}
use Rattle.std.proofs.Crossing as heap
use Rattle.std.specs.declared.option.Option.{Option}
use Rattle.std.specs.declared.option.Option.TheVariants.{None, Some}
use Rattle.std_alloc.proofs.SendSync.{lies, quiet}
use Rattle.std_alloc.specs.Box.Ownership.{box_owns}
use Rattle.std.specs.contracts.impls.GlobalAllocator.TheImpl as global
use Rattle.std_heap.specs.contracts.Global as Heap
use Rattle.journal_core.specs.contracts.ghost_list.GhostList as ghost_list
use Rattle.queue_disc_core.specs.QueueDiscs.{DiscState}
use Rattle.queue_disc_core.specs.contracts.queue_disc.QueueDisc as disc
use Rattle.maltcove_c.specs.Handles.{owned_if}
use Rattle.maltcove_c.specs.contracts.handle.Handle.{the_row, the_type}

-- a list that stands in proofs alone owns nothing
ghost_list_send : (T : RattleType) → IsSend (ghost_list.the_row T)
ghost_list_send T = record { owned = λ d vs. ((λ vss. (tt, ((λ uss. (tt, tt)), tt))), tt); leaving = λ k f vs. tt }

disc_send : IsSend disc.the_row
disc_send = search (sendable, heap.crosses, ghost_list_send) depth 60 fits 30000

pointer_send : IsSend RawPtr
pointer_send = search sendable

heap_send : IsSend Heap.the_field.row
heap_send = search sendable depth 20

owned : (alloc : Heap.the_row.Denot) (at : Ptr) (value : Option DiscState)
    → Keyless (owned_if value (λ x. box_owns (global.ghosts.dealloc_token alloc) disc.the_row at x))
owned alloc at None = tt
owned alloc at (Some x) = (lies disc.the_row disc_send at x, heap.frees.frees alloc (raw (lone disc.the_row.mir)) at)

pub send : IsSend the_row
send =
    let all : AllSend (fields the_type) = (pointer_send, (heap_send, tt)) in
    owning_send the_type all (λ h. owned h.alloc h.at h.value)
    (λ k. quiet (to the_type) (exits_of k (fields the_type)) ((struct_send (shape the_type) all).leaving k))
