-- Text that is put into a lent buffer, and numbers in text (document 01, "Trial program": what a line shows).
use Rattle.std.specs.Prelude.{ℕ, zero, suc, ◌+◌, ◌-◌, ◌/◌, ◌%◌, ◌^◌, cond, ◌||◌, List, [], ◌∷◌, ◌++◌, eqb, leb, ltb, length, take, drop}
use Prim.Native.Char.{code}
use Prim.Native.String.{String, [] as none, ◌∷◌ as ◌then◌}
use Rattle.text.specs.declared.Page.{Page}

-- How many bytes of the text are left out first, and where the next byte stands.
pub record Place : Type 0 where
  pub skip : ℕ
  pub at : ℕ

-- A buffer with a piece put in from a place on, as much of it as fits.
unfoldable pub filled_at : ℕ → List ℕ → List ℕ → List ℕ
filled_at at piece out = take (length out) (take at out ++ (piece ++ drop (at + length piece) out))

-- The place after the piece, at most the buffer's end.
unfoldable pub end_at : ℕ → List ℕ → List ℕ → ℕ
end_at at piece out = cond (leb (at + length piece) (length out)) (at + length piece) (length out)

-- The same where the first bytes of the text are left out.
unfoldable pub filled : Place → List ℕ → List ℕ → List ℕ
filled p piece out = filled_at p.at (drop p.skip piece) out

unfoldable pub end_of : Place → List ℕ → List ℕ → Place
end_of p piece out = record { skip = p.skip - length piece; at = end_at p.at (drop p.skip piece) out }

abbrev pub place_of : Page → Place
place_of page = record { skip = page.skip; at = page.at }

-- A page after a piece: the same buffer lent, filled from the page's place on.
unfoldable pub wrote : Page → List ℕ → Page
wrote page piece =
    let end = end_of (place_of page) piece page.text.now in
    record { skip = end.skip; at = end.at; text = record page.text { now = filled (place_of page) piece page.text.now } }

-- A piece over the buffer's first bytes, the others as they were.
unfoldable pub laid_over : List ℕ → List ℕ → List ℕ
laid_over piece out = piece ++ drop (length piece) out

-- A place within the buffer.
abbrev pub within : Place → ℕ → Place
within p room = record { skip = p.skip; at = cond (leb p.at room) p.at room }

-- The digits 0 to 9 stand from 48 on, the letters A to F from 65 on.
abbrev pub digit : ℕ → ℕ
digit d = 48 + d

abbrev pub hex_digit : ℕ → ℕ
hex_digit d = cond (ltb d 10) (48 + d) (55 + d)

-- The w low decimal digits, without leading zeros.
unfoldable pub decimal_up_to : ℕ → ℕ → List ℕ
decimal_up_to zero n = []
decimal_up_to (suc w) n = cond (eqb w 0 || leb (10 ^ w) n) (digit (n / 10 ^ w % 10) ∷ []) [] ++ decimal_up_to w n

-- A 64-bit number has at most 20 digits.
abbrev pub decimal : ℕ → List ℕ
decimal n = decimal_up_to 20 n

-- Two upper-case hexadecimal digits for each byte.
abbrev pub hex_of : List ℕ → List ℕ
hex_of [] = []
hex_of (b ∷ bs) = hex_digit (b / 16) ∷ (hex_digit (b % 16) ∷ hex_of bs)

-- ---- words that lines are made of

-- Words in bytes, one for each character.
abbrev pub ascii : String → List ℕ
ascii none = []
ascii (c then s) = code c ∷ ascii s

abbrev pub space : List ℕ
space = 32 ∷ []

abbrev pub new_line : List ℕ
new_line = 10 ∷ []

-- Document 01, "Trial program".
abbrev pub bad_file : List ℕ
bad_file = ascii "bad file\n"

-- A dash stands for a text of nothing.
abbrev pub or_dash : List ℕ → List ℕ
or_dash [] = 45 ∷ []
or_dash (x ∷ xs) = x ∷ xs
