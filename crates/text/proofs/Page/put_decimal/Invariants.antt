use mathlib.Core.Path.{◌≡◌}
use Prim.Native.Nat.{◌-◌, ◌^◌, ◌≤◌}
use Rattle.text.specs.Text.{decimal, decimal_up_to}
use Rattle.text.proofs.Laws.{Remains}
use Rattle.text.proofs.Page.put_decimal.Given as goal

-- The digits of the places below w are still to be put in, and the highest of them is next.
abbrev pub invariant-loop-w : goal.invariant-loop-w
invariant-loop-w l = Remains l.fn.self (decimal l.n) l.self (decimal_up_to l.w l.n) × (l.next ≡ 10 ^ (l.w - 1)) × (1 ≤ l.w)
