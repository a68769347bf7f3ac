-- The number, the layer and the place of each refusal.
use Rattle.std.specs.Prelude.{ℕ, cond, nat_le}
use Rattle.refusal.specs.declared.Layer.{Layer}
use Rattle.refusal.specs.declared.Layer.TheVariants.{Maker, Log, Record, Board, Accumulator}
use Rattle.refusal.specs.declared.Refusal.{Refusal}
use Rattle.refusal.specs.declared.Refusal.TheVariants.{Limit, TooFewCells, LogSize, BlockCheck, BlockNumber, BlockCount, NotZero, BadRecord, NoStation, NotMember, AlreadyMember, ModeDenied, OutOfTurn, PastLastPass, LastPassKept, NotSigned, NothingObserved, NoCell, NotKept}

abbrev pub number : Refusal → ℕ
number (Limit limit) = 1
number (TooFewCells cells) = 2
number LogSize = 3
number (BlockCheck block) = 4
number (BlockNumber block) = 5
number (BlockCount block) = 6
number (NotZero block) = 7
number (BadRecord at) = 8
number (NoStation station) = 9
number (NotMember caller) = 10
number (AlreadyMember other) = 11
number (ModeDenied caller) = 12
number (OutOfTurn caller) = 13
number (PastLastPass caller) = 14
number (LastPassKept first) = 14
number (NotSigned caller) = 15
number (NothingObserved caller) = 16
number (NoCell station) = 17
number (NotKept pass) = 18

abbrev pub layer : Refusal → Layer
layer (Limit limit) = Maker
layer (TooFewCells cells) = Maker
layer LogSize = Log
layer (BlockCheck block) = Log
layer (BlockNumber block) = Log
layer (BlockCount block) = Log
layer (NotZero block) = Log
layer (BadRecord at) = Record
layer (NoStation station) = Board
layer (NotMember caller) = Board
layer (AlreadyMember other) = Board
layer (ModeDenied caller) = Board
layer (OutOfTurn caller) = Board
layer (PastLastPass caller) = Board
layer (LastPassKept first) = Accumulator
layer (NotSigned caller) = Board
layer (NothingObserved caller) = Board
layer (NoCell station) = Accumulator
layer (NotKept pass) = Accumulator

abbrev pub place : Refusal → ℕ
place (Limit limit) = limit
place (TooFewCells cells) = cells
place LogSize = 0
place (BlockCheck block) = block
place (BlockNumber block) = block
place (BlockCount block) = block
place (NotZero block) = block
place (BadRecord at) = at
place (NoStation station) = station
place (NotMember caller) = caller
place (AlreadyMember other) = other
place (ModeDenied caller) = caller
place (OutOfTurn caller) = caller
place (PastLastPass caller) = caller
place (LastPassKept first) = first
place (NotSigned caller) = caller
place (NothingObserved caller) = caller
place (NoCell station) = station
place (NotKept pass) = pass

-- the layer of a number: the maker's are 1 and 2, the log's 3 to 7, the record's 8, the board's 9 to 16, the accumulator's 17 and 18
abbrev pub layer_of_number : ℕ → Layer
layer_of_number n =
    cond (nat_le n 2) Maker
    (cond (nat_le n 7) Log
    (cond (nat_le n 8) Record
    (cond (nat_le n 16) Board Accumulator)))
