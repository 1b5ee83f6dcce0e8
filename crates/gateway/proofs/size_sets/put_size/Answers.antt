-- Below 64 the set of the port, at 64 the set behind them all.
use native.Mathlib.Omega.{arith}
use Rattle.gateway.proofs.SizePut.{small_put, whole_put}
use Rattle.gateway.proofs.size_sets.put_size.Goals as goal

pub returns-then-k-lt64 : goal.returns-then-k-lt64
returns-then-k-lt64 c =
    let a = c.args in
    record { put = λ f e. small_put f a.port a.k a.sets.now _ e (omega arith) (omega arith) c.put_bit.ensures }

pub returns : goal.returns
returns c =
    let a = c.args in
    record { put = λ f e. whole_put f a.port a.k a.sets.now _ e (omega arith) (omega arith) c.put_bit-2.ensures }
