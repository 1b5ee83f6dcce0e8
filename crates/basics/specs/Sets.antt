-- Sets of ports and of slots (document 01: "one digit per port from 0", "a 64-bit set, bit i for consumer slot i").
use Rattle.std.specs.Prelude.{ℕ, zero, suc, ◌+◌, ◌^◌, Bool, false, cond, ◌||◌, eqb}
use Rattle.numbers.specs.Bits.{bit}

-- The set of the numbers below n that pass, as a number: bit i for i.
unfoldable pub set_of : ℕ → (ℕ → Bool) → ℕ
set_of zero to = 0
set_of (suc n) to = set_of n to + cond (to n) (2 ^ n) 0

-- Whether i is in a set.
abbrev pub in_set : ℕ → ℕ → Bool
in_set set i = eqb (bit i set) 1

-- Whether any number below n passes.
abbrev pub any_below : ℕ → (ℕ → Bool) → Bool
any_below zero test = false
any_below (suc n) test = test n || any_below n test
