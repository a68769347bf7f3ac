-- The next line of a text.
use Rattle.std.specs.Prelude.{◌≡◌, ℕ, List, [], ◌∷◌, length, if◌then◌else◌, nat_le, Option, IfSome, IsSomeAnd}
use Rattle.std.specs.Io.KnownBytes.{Keeps}
use Rattle.std.specs.Io.BufRead.{first_line, drop_through, DropsThrough}
use Rattle.textlines.specs.declared.TheConstants.{MAX_LINE_LEN}
use Rattle.textlines.specs.declared.reading.Line.{Line}
use Rattle.textlines.specs.declared.reading.Line.TheVariants.{Whole, TooLong, Ended}

-- what the next line of a text is: its first line, in the words of `lines`, or none where nothing is left
abbrev pub next_line : List ℕ → Line
next_line [] = Ended
next_line (byte ∷ text) = if nat_le (length (first_line (byte ∷ text))) MAX_LINE_LEN then Whole else TooLong

-- what a reader has left: what is behind a whole line, and of one that is too long also a part of it
abbrev pub MovesPast : Line → Option (List ℕ) → Option (List ℕ) → Type 0
MovesPast Whole old new = DropsThrough old new 10
MovesPast TooLong old new = IfSome old (λ text. IsSomeAnd new (λ left. drop_through 10 left ≡ drop_through 10 text))
MovesPast Ended old new = Keeps old new
