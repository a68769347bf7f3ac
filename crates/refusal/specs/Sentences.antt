-- Refusals in plain sentences.
use Rattle.std.specs.Prelude.{ℕ, List, ◌++◌, codes, decimal}
use Rattle.refusal.specs.declared.Refusal.{Refusal}
use Rattle.refusal.specs.declared.Refusal.TheVariants.{Limit, TooFewCells, LogSize, BlockCheck, BlockNumber, BlockCount, NotZero, BadRecord, NoStation, NotMember, AlreadyMember, ModeDenied, OutOfTurn, PastLastPass, LastPassKept, NotSigned, NothingObserved, NoCell, NotKept}
use Rattle.refusal.specs.declared.limits.TheConstants.{STATIONS, LAST_PASS}
use Rattle.refusal.specs.Text.{number_and_place}

-- a number between words
abbrev pub around : List ℕ → ℕ → List ℕ → List ℕ
around before n behind = before ++ (decimal n ++ behind)

abbrev pub sentence_text : Refusal → List ℕ
sentence_text (Limit limit) = codes "the limit is 1 to " ++ (decimal STATIONS ++ (codes " stations, and not " ++ decimal limit))
sentence_text (TooFewCells cells) = decimal cells ++ codes " cells are too few: each station below the limit needs one for each kept pass"
sentence_text LogSize = codes "the log is too long, or it is not whole blocks, or its steps have no room"
sentence_text (BlockCheck block) = around (codes "the check of block ") block (codes " is wrong: a byte of the block was altered")
sentence_text (BlockNumber block) = around (codes "block ") block (codes " has another number: a block is missing or out of order")
sentence_text (BlockCount block) = around (codes "block ") block (codes " counts too many records, or none, or too few before a further block")
sentence_text (NotZero block) = around (codes "block ") block (codes " has a byte that is not zero outside its records")
sentence_text (BadRecord at) = around (codes "record ") at (codes " says no step")
sentence_text (NoStation station) = codes "there is no station " ++ (decimal station ++ (codes ": stations have the numbers below " ++ decimal STATIONS))
sentence_text (NotMember caller) = around (codes "station ") caller (codes " is no member")
sentence_text (AlreadyMember other) = around (codes "station ") other (codes " is a member already")
sentence_text (ModeDenied caller) = around (codes "station ") caller (codes " is in a mode that does not allow this call")
sentence_text (OutOfTurn caller) = around (codes "it is not the turn of station ") caller (codes ": one in mode SW signs, then waits, then signs")
sentence_text (PastLastPass caller) = codes "station " ++ (decimal caller ++ (codes " has come to the last pass, " ++ decimal LAST_PASS))
sentence_text (LastPassKept first) = around (codes "there is no pass to move on to: the first kept pass is ") first (codes ", the last one")
sentence_text (NotSigned caller) = around (codes "not every signaler has signed the pass that station ") caller (codes " would observe")
sentence_text (NothingObserved caller) = around (codes "station ") caller (codes " has observed no pass yet: it has to wait first")
sentence_text (NoCell station) = around (codes "station ") station (codes " cannot send: only the stations below the limit have cells")
sentence_text (NotKept pass) = around (codes "the total of pass ") pass (codes " is not kept")

-- its number and place, and what it says
abbrev pub told_text : Refusal → List ℕ
told_text refusal = number_and_place refusal ++ (codes ": " ++ sentence_text refusal)
