-- The words for what was expected and what was found. Of a word that is not in ASCII no text is said.
use Rattle.std.specs.Prelude.{ℕ, List, ◌++◌, codes, decimal, Some, Option}
use Rattle.std.specs.Fmt.{◌++?◌, debug_str}
use Rattle.textlines.specs.declared.TheConstants.{MAX_LINE_LEN}
use Rattle.refusal.specs.declared.Refusal.TheVariants.{LogSize}
use Rattle.refusal.specs.Text.{number_and_place}
use Rattle.shiftlog.specs.declared.form.TheConstants.{MAX_BLOCKS}
use Rattle.steptext.specs.declared.expectations.Expected.{Expected}
use Rattle.steptext.specs.declared.expectations.Expected.TheVariants.{Verb, Request, Station, Mode, Length, Deviation, Marks, End, Text, ShortLine}
use Rattle.steptext.specs.declared.found.Found.{Found}
use Rattle.steptext.specs.declared.found.Found.TheVariants.{Word, LineEnd, OtherBytes, LongerLine}
use Rattle.steptext.specs.declared.found.Mismatch.{Mismatch}
use Rattle.steptext.specs.declared.lines.BadLine.{BadLine}
use Rattle.steptext.specs.declared.streams.TheConstants.{MAX_STEPS}
use Rattle.steptext.specs.declared.streams.NoLog.{NoLog}
use Rattle.steptext.specs.declared.streams.NoLog.TheVariants.{WrongLine, TooManySteps}

abbrev pub expected_text : Expected → List ℕ
expected_text Verb = codes "register, signal, wait, drop, send, result or view"
expected_text Request = codes "register, signal, wait, drop, send, result, view, holders or compare"
expected_text Station = codes "a station, 0 to 255"
expected_text Mode = codes "SW, SO or WO"
expected_text Length = codes "a length, 0 to 4294967295"
expected_text Deviation = codes "a deviation, -32768 to 32767"
expected_text Marks = codes "marks, 0 to 65535"
expected_text End = codes "the end of the line"
expected_text Text = codes "text in UTF-8"
expected_text ShortLine = codes "a line of at most " ++ (decimal MAX_LINE_LEN ++ codes " bytes")

abbrev pub found_text : Found → Option (List ℕ)
found_text (Word word) = debug_str word
found_text LineEnd = Some (codes "the end of the line")
found_text OtherBytes = Some (codes "other bytes")
found_text LongerLine = Some (codes "a longer one")

abbrev pub mismatch_text : Mismatch → Option (List ℕ)
mismatch_text m = Some (codes "expected ") ++? Some (expected_text m.expected) ++? Some (codes ", found ") ++? found_text m.found

abbrev pub bad_line_text : BadLine → Option (List ℕ)
bad_line_text bad = Some (codes "line ") ++? Some (decimal bad.number) ++? Some (codes ": ") ++? mismatch_text bad.mismatch

-- the refusal with its number and place, what it means, and the line that is at fault
abbrev pub no_log_text : NoLog → Option (List ℕ)
no_log_text (WrongLine bad) = bad_line_text bad
no_log_text (TooManySteps line) = Some (number_and_place LogSize ++ (codes ": a log has at most " ++ (decimal MAX_BLOCKS ++ (codes " blocks, "
    ++ (decimal MAX_STEPS ++ (codes " steps; line " ++ (decimal line ++ codes " has one more")))))))
