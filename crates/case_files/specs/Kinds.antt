-- A line of a case file by its first byte: 35 begins a comment, 61 a title.
use Rattle.std.specs.Prelude.{ℕ, List, [], ◌∷◌, true, false, eqb, if◌then◌else◌}
use Rattle.case_files.specs.declared.kinds.Kind.{Kind}
use Rattle.case_files.specs.declared.kinds.Kind.TheVariants.{PassedOver, Title, Command}

abbrev pub kind_of : List ℕ → Kind
kind_of [] = PassedOver
kind_of (b ∷ rest) = if eqb b 35 then PassedOver else (if eqb b 61 then Title else Command)
