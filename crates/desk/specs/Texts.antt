-- Requests and what they are answered, as they are printed.
use Rattle.std.specs.Prelude.{ℕ, zero, suc, ◌/◌, ◌%◌, ◌^◌, Bool, true, false, cond, ◌==◌, List, [], ◌++◌, Some, Option, Ok, Err, Result, codes, decimal}
use Rattle.std.specs.Fmt.{◌++?◌}
use Rattle.refusal.specs.declared.Refusal.{Refusal}
use Rattle.refusal.specs.declared.limits.TheConstants.{STATIONS}
use Rattle.refusal.specs.Text.{number_and_place}
use Rattle.refusal.specs.Sentences.{sentence_text}
use Rattle.calls.specs.Calls.{verb_in}
use Rattle.calls.specs.Words.{head_text, answer_text}
use Rattle.steptext.specs.declared.lines.BadLine.{BadLine}
use Rattle.steptext.specs.Texts.{bad_line_text}
use Rattle.desk.specs.declared.requests.Request.{Request}
use Rattle.desk.specs.declared.requests.Request.TheVariants.{Call, Holders, Compare}
use Rattle.desk.specs.declared.replies.Reply.{Reply}
use Rattle.desk.specs.declared.replies.Reply.TheVariants.{Answered, Holders as Held, Order}
use Rattle.desk.specs.declared.replies.Told.{Told}

abbrev pub line_end : List ℕ
line_end = codes "\n"

-- its verb and who asks, or who is asked about
abbrev pub asked_text : Request → List ℕ
asked_text (Call c) = head_text (verb_in c.action) c.caller
asked_text (Holders waiter) = codes "holders " ++ decimal waiter
asked_text (Compare first second) = codes "compare " ++ (decimal first ++ (codes " " ++ decimal second))

abbrev pub yes_text : Bool → List ℕ
yes_text true = codes "yes"
yes_text false = codes "no"

-- station k is in a set
abbrev pub is_in : ℕ → ℕ → Bool
is_in set k = set / 2 ^ k % 2 == 1

-- those of the first n stations that are in a set, in order, each behind a space
unfoldable pub stations_text : ℕ → ℕ → List ℕ
stations_text set zero = []
stations_text set (suc n) = stations_text set n ++ cond (is_in set n) (codes " " ++ decimal n) []

-- the number and the place of a refusal, and what it says
abbrev pub refused_text : Refusal → List ℕ
refused_text refusal = codes "no " ++ (number_and_place refusal ++ (codes ": " ++ sentence_text refusal))

-- where text is that of a total
module _ {V : Type 0} (text : V → List ℕ) where
  abbrev pub reply_text : Reply V → List ℕ
  reply_text (Answered answer) = answer_text text answer
  reply_text (Held set count) = codes "ok " ++ (decimal count ++ stations_text set STATIONS)
  reply_text (Order forward backward) = codes "ok " ++ (yes_text forward ++ (codes " " ++ yes_text backward))

  abbrev pub result_text : Result (Reply V) Refusal → List ℕ
  result_text (Ok reply) = reply_text reply
  result_text (Err refusal) = refused_text refusal

  -- the request by its number, and what it was answered
  abbrev pub told_text : Told V → List ℕ
  told_text told = decimal told.number ++ (codes " " ++ (asked_text told.request ++ (codes " " ++ result_text told.result)))

  -- the same on a line of its own
  abbrev pub told_line : ℕ → Request → Result (Reply V) Refusal → List ℕ
  told_line number request result = told_text (record { number = number; request = request; result = result }) ++ line_end

-- what is told of a wrong line
abbrev pub complaint_text : BadLine → Option (List ℕ)
complaint_text bad = bad_line_text bad ++? Some line_end
