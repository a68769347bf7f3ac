-- Where the reading of a line stops, and what it comes to there.
use Rattle.std.specs.Prelude.{ℕ, Bool, true, false, List, [], ◌∷◌, ◌++◌, length, take, ⊤, if◌then◌else◌, nat_lt, nat_le, Option}
use Rattle.std.specs.Io.KnownBytes.{IsAtEnd}
use Rattle.std.specs.Io.BufRead.{strip_last}
use Rattle.textlines.specs.declared.TheConstants.{MAX_LINE_LEN}
use Rattle.textlines.specs.declared.reading.Line.{Line}
use Rattle.textlines.specs.declared.reading.Line.TheVariants.{Whole, TooLong, Ended}
use Rattle.textlines.specs.declared.reading.Stop.{Stop}
use Rattle.textlines.specs.declared.reading.Stop.TheVariants.{LineEnd, TextEnd, Full}

-- longer than the longest line, without the carriage return that may belong to its end
abbrev pub is_too_long : List ℕ → Bool
is_too_long line = nat_lt MAX_LINE_LEN (length (strip_last 13 line))

abbrev pub is_full : Stop → Bool
is_full LineEnd = false
is_full TextEnd = false
is_full Full = true

-- what the reader gave, of which the line holds all but a newline
abbrev pub given : Stop → List ℕ → List ℕ
given LineEnd line = line ++ 10 ∷ []
given TextEnd line = line
given Full line = line

abbrev pub IsEndedFor : Stop → Option (List ℕ) → Type 0
IsEndedFor LineEnd left = ⊤
IsEndedFor TextEnd left = IsAtEnd left
IsEndedFor Full left = ⊤

-- a last line without a newline
abbrev pub last_line : List ℕ → Line
last_line [] = Ended
last_line (byte ∷ line) = if nat_le (length (byte ∷ line)) MAX_LINE_LEN then Whole else TooLong

abbrev pub line_at : Stop → List ℕ → Line
line_at LineEnd line = Whole
line_at TextEnd line = last_line line
line_at Full line = TooLong

abbrev pub kept_at : Stop → List ℕ → List ℕ
kept_at LineEnd line = strip_last 13 line
kept_at TextEnd line = take MAX_LINE_LEN line
kept_at Full line = take MAX_LINE_LEN line
