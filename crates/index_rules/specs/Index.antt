-- The index of a table (document 02, W6): "for each port .. which block sizes occur there, and for each size its lines in order of first event, then of place in the table".
use Rattle.std.specs.Prelude.{ℕ, zero, suc, ◌+◌, ◌*◌, ◌^◌, Bool, cond, ◌&&◌, List, [], ◌∷◌, ◌++◌, eqb, ltb, length, get_or}
use Rattle.basics.specs.Lists.{any, each}
use Rattle.basics.specs.Sets.{set_of}
use Rattle.gateway_rules.specs.declared.Line.{Line}

-- The lines' numbers in order, and nine sets of sizes and ports. A line's number is its place in the table.
pub record Index : Type 0 where
  pub order : List ℕ
  pub sets : List ℕ

-- ---- the order

-- Port, then size, then first event, compared as one number: a port and a size are below 256, an event below 2^64.
unfoldable pub spot : ℕ → ℕ → ℕ → ℕ
spot port k start = (port * 256 + k) * 2 ^ 64 + start

abbrev pub spot_of : Line → ℕ
spot_of l = spot l.port l.block.k l.block.start

-- The line of a number.
abbrev pub line_of : List Line → ℕ → Line
line_of lines i = get_or lines i (record { port = 0; node = 0; block = record { start = 0; k = 0 } })

-- A number put in before the first whose line stands behind its own.
abbrev pub put_in : (ℕ → ℕ) → ℕ → List ℕ → List ℕ
put_in spotAt i [] = i ∷ []
put_in spotAt i (j ∷ js) = cond (ltb (spotAt i) (spotAt j)) (i ∷ (j ∷ js)) (j ∷ put_in spotAt i js)

-- The first n numbers, put in one after another: so of equal spots the earlier place stands first.
abbrev pub sorted : (ℕ → ℕ) → ℕ → List ℕ
sorted spotAt zero = []
sorted spotAt (suc n) = put_in spotAt n (sorted spotAt n)

-- ---- the sizes

-- A line of a size stands at a port.
abbrev pub of_size : ℕ → ℕ → Line → Bool
of_size p k l = eqb l.port p && eqb l.block.k k

abbrev pub occurs : List Line → ℕ → ℕ → Bool
occurs lines p k = any (of_size p k) lines

-- For each of eight ports the sizes below 64 that occur there, and behind them the ports where the whole space does.
abbrev pub size_sets : (ℕ → ℕ → Bool) → List ℕ
size_sets occursAt = each 8 (λ p. set_of 64 (occursAt p)) ++ (set_of 8 (λ p. occursAt p 64) ∷ [])

-- ---- the index

unfoldable pub index_of : List Line → Index
index_of lines = record { order = sorted (λ i. spot_of (line_of lines i)) (length lines); sets = size_sets (occurs lines) }
