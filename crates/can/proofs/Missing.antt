-- What a missing value is refused with.
use Rattle.std.proofs.Common.{◌≡◌, Option, Some, None, Ok, Err, arith}
use Rattle.std.specs.Option.{ok_or}

module _ {A E : Type 0} where
  pub some_from_ok : (o : Option A) (e : E) (x : A) → ok_or o e ≡ Ok x → o ≡ Some x
  some_from_ok o e x h = grind arith

  pub none_from_err : (o : Option A) (e k : E) → ok_or o e ≡ Err k → (o ≡ None) × (k ≡ e)
  none_from_err o e k h = grind arith
