-- W6 by computation: the index of small tables, worked out by hand, and what a lookup finds there.
use mathlib.Core.Path.{◌≡◌, refl}
use mathlib.Core.Bool.{true, false}
use mathlib.Core.List.{List, [], ◌∷◌}
use Rattle.range.specs.Range.{single}
use Rattle.basics.specs.Lists.{each}
use Rattle.basics.specs.Sets.{set_of}
use Rattle.gateway_rules.specs.declared.Line.{Line}
use Rattle.gateway_rules.specs.Step.{line}
use Rattle.index_rules.specs.Index.{spot, index_of}
use Rattle.index_rules.specs.Looking.{by_size}

-- Port 0 has a block of 16 events. Port 1 has event 70 of two nodes, the whole space, and event 5.
abbrev five : List Line
five =
    line 1 7 (single 70)
    ∷ line 0 8 (record { start = 16; k = 4 })
    ∷ line 1 9 (single 70)
    ∷ line 1 7 (record { start = 0; k = 64 })
    ∷ line 1 9 (single 5)
    ∷ []

-- Port 0 comes first, though its block is larger and begins later than event 5; then single events, 5 before 70, and of the two at 70 the earlier place; then the whole space, though it begins with 0.
pub five_indexed : ((index_of five).order ≡ 1 ∷ 4 ∷ 0 ∷ 2 ∷ 3 ∷ [])
    × ((index_of five).sets ≡ 0x10 ∷ 1 ∷ 0 ∷ 0 ∷ 0 ∷ 0 ∷ 0 ∷ 0 ∷ 2 ∷ [])
unfolding index_of spot each set_of
five_indexed = (refl, refl)

pub empty_indexed : ((index_of []).order ≡ []) × ((index_of []).sets ≡ 0 ∷ 0 ∷ 0 ∷ 0 ∷ 0 ∷ 0 ∷ 0 ∷ 0 ∷ 0 ∷ [])
unfolding index_of each set_of
empty_indexed = (refl, refl)

-- One line with the whole space, at port 7: no size below 64 there.
abbrev whole : List Line
whole = line 7 7 (record { start = 0; k = 64 }) ∷ []

pub whole_indexed : ((index_of whole).order ≡ 0 ∷ []) × ((index_of whole).sets ≡ 0 ∷ 0 ∷ 0 ∷ 0 ∷ 0 ∷ 0 ∷ 0 ∷ 0 ∷ 0x80 ∷ [])
unfolding index_of spot each set_of
whole_indexed = (refl, refl)

-- The first and last event of a block and those beside them, and what only the whole space holds.
pub five_looked_up : (by_size (index_of five) five 0 15 ≡ false)
    × (by_size (index_of five) five 0 16 ≡ true)
    × (by_size (index_of five) five 0 31 ≡ true)
    × (by_size (index_of five) five 0 32 ≡ false)
    × (by_size (index_of five) five 1 0xFFFFFFFFFFFFFFFF ≡ true)
    × (by_size (index_of five) five 2 70 ≡ false)
unfolding by_size index_of spot each set_of
five_looked_up = (refl, refl, refl, refl, refl, refl)
