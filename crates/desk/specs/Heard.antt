-- What a line comes to.
use Rattle.std.specs.Prelude.{ℕ, cond, List, [], ◌∷◌, length, nat_le, Some, None, Option, Ok, Err, Result}
use Rattle.std.specs.Io.BufRead.{first_line}
use Rattle.std.specs.Str.{is_utf8}
use Rattle.steptext.specs.declared.found.Mismatch.{Mismatch}
use Rattle.steptext.specs.Lines.{words_of, too_long, not_text}
use Rattle.textlines.specs.declared.TheConstants.{MAX_LINE_LEN}
use Rattle.textlines.specs.Silence.{says_nothing}
use Rattle.desk.specs.declared.requests.Request.{Request}
use Rattle.desk.specs.declared.hearing.Heard.{Heard}
use Rattle.desk.specs.declared.hearing.Heard.TheVariants.{Nothing, Asked, Wrong}
use Rattle.desk.specs.Requests.{request_in}

abbrev pub by_words : Result Request Mismatch → Heard
by_words (Ok request) = Asked request
by_words (Err mismatch) = Wrong mismatch

abbrev pub heard_in : List ℕ → Heard
heard_in line =
    cond (nat_le (length line) MAX_LINE_LEN)
    (cond (says_nothing line) Nothing
    (cond (is_utf8 line) (by_words (request_in (words_of line)))
    (Wrong not_text)))
    (Wrong too_long)

-- what the next line of a text comes to, or none at its end
abbrev pub next_heard : List ℕ → Option Heard
next_heard [] = None
next_heard (byte ∷ text) = Some (heard_in (first_line (byte ∷ text)))
