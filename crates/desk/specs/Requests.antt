-- The request that a line makes.
use Rattle.std.specs.Prelude.{ℕ, cond, List, bytes_eq, codes, Ok, Err, Result}
use Rattle.calls.specs.declared.actions.Call.{Call as Step}
use Rattle.shiftlog.specs.declared.readings.Reading.{Reading}
use Rattle.steptext.specs.declared.expectations.Expected.{Expected}
use Rattle.steptext.specs.declared.expectations.Expected.TheVariants.{Verb, Request as ARequest, Station}
use Rattle.steptext.specs.declared.found.Mismatch.{Mismatch}
use Rattle.steptext.specs.declared.places.Misplaced.{Misplaced}
use Rattle.steptext.specs.Words.{word_number}
use Rattle.steptext.specs.Lines.{◌>>=◌, word, at_place, ended_at, with_found, step_placed}
use Rattle.desk.specs.declared.requests.Request.{Request}
use Rattle.desk.specs.declared.requests.Request.TheVariants.{Call, Holders, Compare}

-- the waiter, and no further word
abbrev pub holders_in : List (List ℕ) → Result Request Misplaced
holders_in words =
    at_place 1 (word_number 8 Station (word words 1)) >>= λ waiter.
    ended_at 2 words (Holders waiter)

-- two stations, and no further word
abbrev pub compare_in : List (List ℕ) → Result Request Misplaced
compare_in words =
    at_place 1 (word_number 8 Station (word words 1)) >>= λ first.
    at_place 2 (word_number 8 Station (word words 2)) >>= λ second.
    ended_at 3 words (Compare first second)

-- what was expected, where a request that is no call would do as well
abbrev pub or_request : Expected → Expected
or_request Verb = ARequest
or_request expected = expected

abbrev pub of_step : Result (Step Reading) Misplaced → Result Request Misplaced
of_step (Ok step) = Ok (Call step)
of_step (Err wrong) = Err (record { expected = or_request wrong.expected; place = wrong.place })

-- the step that the words say
abbrev pub call_in : List (List ℕ) → Result Request Misplaced
call_in words = of_step (step_placed words)

-- holders or compare, and else one of the seven calls
abbrev pub request_placed : List (List ℕ) → Result Request Misplaced
request_placed words =
    cond (bytes_eq (word words 0) (codes "holders")) (holders_in words)
    (cond (bytes_eq (word words 0) (codes "compare")) (compare_in words)
    (call_in words))

-- the same, with the word that is found where it is not as expected
abbrev pub request_in : List (List ℕ) → Result Request Mismatch
request_in words = with_found words (request_placed words)
