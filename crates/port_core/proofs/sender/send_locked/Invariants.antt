use Rattle.std.proofs.Common.{◌≡◌, ◌≤◌, ◌<◌, ℕ, map}
use Rattle.port_core.specs.Senders.{SendsAt, SendsSome}
use Rattle.port_core.proofs.sender.send_locked.Given as goal

abbrev pub invariant-loop-now : goal.invariant-loop-now
invariant-loop-now g l = record {
  told : SendsSome l.fn.seat (map (λ p. p.1) l.packets) l.calls l.seat;
  moments : SendsAt l.fn.seat l.packets l.calls l.seat;
  calls : l.calls ≡ l.now-index;
  gate : (call : ℕ) → 0 < call → call ≤ l.calls → g.G.Gate.LetThrough l.gate call;
}
