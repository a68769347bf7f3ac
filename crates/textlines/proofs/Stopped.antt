-- What a reading that stopped says of the text that the reader had.
use Rattle.std.proofs.Common.{◌≡◌, ℕ, ◌<◌, ◌≤◌, Bool, true, false, cond, leb, List, [], ◌∷◌, ◌++◌, length, take, None, Some, Option, IfSome, refl, sym, ap, ◌∙◌, arith, append-nil, append_assoc, length-append, length-take, take_all}
use Rattle.std.specs.Io.KnownBytes.{Consumes}
use Rattle.std.specs.Io.BufRead.{first_line, drop_through, strip_last}
use Rattle.std.proofs.lemmas.Bool.{ltb-true, ltb-false, le-leb, lt-leb, cond-true, cond-false}
use Rattle.std.proofs.BufReadLemmas.{drop_through-append}
use Rattle.textlines.specs.declared.TheConstants.{MAX_LINE_LEN}
use Rattle.textlines.specs.declared.reading.Line.TheVariants.{Whole, TooLong}
use Rattle.textlines.specs.declared.reading.Stop.{Stop}
use Rattle.textlines.specs.declared.reading.Stop.TheVariants.{LineEnd, TextEnd, Full}
use Rattle.textlines.specs.Lines.{next_line, MovesPast}
use Rattle.textlines.specs.Stops.{is_too_long, is_full, given, IsEndedFor, last_line, line_at, kept_at}
use Rattle.textlines.proofs.FirstLine.{IsOneLine, first_line-ended, first_line-last, first_line-front, drop_through-ended, drop_through-last, length-strip_last}

next_line-whole : (text : List ℕ) → 0 < length text → length (first_line text) ≤ MAX_LINE_LEN → next_line text ≡ Whole
next_line-whole [] some short = absurd (omega arith)
next_line-whole (byte ∷ text) some short = cond-true _ _ _ (le-leb _ _ short)

next_line-too_long : (text : List ℕ) → 0 < length text → MAX_LINE_LEN < length (first_line text) → next_line text ≡ TooLong
next_line-too_long [] some long = absurd (omega arith)
next_line-too_long (byte ∷ text) some long = cond-false _ _ _ (lt-leb _ _ long)

-- of a text that is one line without a newline
last_line-is : (line : List ℕ) → IsOneLine line → last_line line ≡ next_line line
last_line-is [] h = refl
last_line-is (byte ∷ line) h =
    ap (λ l. cond (leb (length l) MAX_LINE_LEN) Whole TooLong) (sym (first_line-last (byte ∷ line) h))

last_line-past : (line left : List ℕ) → IsOneLine line → left ≡ [] → MovesPast (last_line line) (Some line) (Some left)
last_line-past [] left h none = none
last_line-past (byte ∷ line) left h none = at (leb (length (byte ∷ line)) MAX_LINE_LEN)
  where
    at : (b : Bool) → MovesPast (cond b Whole TooLong) (Some (byte ∷ line)) (Some left)
    at true = ap Some (none ∙ sym (drop_through-last (byte ∷ line) h))
    at false = ap (drop_through 10) none ∙ sym (drop_through-last (byte ∷ line) h)

-- the line, what is kept of it, and what is left of the text
pub record Reads (stop : Stop) (line : List ℕ) (old new : Option (List ℕ)) : Type 0 where
  pub kind : IfSome old (λ text. line_at stop line ≡ next_line text)
  pub bytes : IfSome old (λ text. kept_at stop line ≡ take MAX_LINE_LEN (first_line text))
  pub past : MovesPast (line_at stop line) old new

reads_known : (stop : Stop) (line text left : List ℕ) → text ≡ given stop line ++ left → IsEndedFor stop (Some left) → IsOneLine line → is_too_long line ≡ is_full stop → Reads stop line (Some text) (Some left)
reads_known LineEnd line text left from ended h long =
    let whole : text ≡ line ++ 10 ∷ left = from ∙ append_assoc line (10 ∷ []) left in
    let first : first_line text ≡ strip_last 13 line = ap first_line whole ∙ first_line-ended line left h in
    let short : length (strip_last 13 line) ≤ MAX_LINE_LEN = ltb-false _ _ long in
    let some : 0 < length text = omega (arith, ap length whole, length-append line (10 ∷ left)) in
    record {
      kind = sym (next_line-whole text some (omega (arith, ap length first)));
      bytes = sym (ap (take MAX_LINE_LEN) first ∙ take_all MAX_LINE_LEN (strip_last 13 line) short);
      past = ap Some (sym (ap (drop_through 10) whole ∙ drop_through-ended line left h));
    }
reads_known TextEnd line text left from ended h long =
    let whole : text ≡ line = from ∙ ap (λ l. line ++ l) ended ∙ append-nil line in
    record {
      kind = last_line-is line h ∙ ap next_line (sym whole);
      bytes = ap (take MAX_LINE_LEN) (sym (ap first_line whole ∙ first_line-last line h));
      past = rw whole (last_line-past line left h ended);
    }
reads_known Full line text left from ended h long =
    let front = first_line-front MAX_LINE_LEN line left h (ltb-true _ _ long) in
    let own = length-strip_last 13 line in
    let some : 0 < length text = omega (arith, ap length from, length-append line left, ltb-true _ _ long) in
    record {
      kind = sym (next_line-too_long text some (omega (arith, front.0, ap length (ap first_line from))));
      bytes = sym (ap (λ t. take MAX_LINE_LEN (first_line t)) from ∙ front.1);
      past = sym (ap (drop_through 10) from ∙ drop_through-append 10 line left h);
    }

pub reads : (stop : Stop) (line : List ℕ) (old new : Option (List ℕ)) → Consumes old new (given stop line) → IsEndedFor stop new → IsOneLine line → is_too_long line ≡ is_full stop → Reads stop line old new
reads LineEnd line None new from ended h long = record { kind = tt; bytes = tt; past = tt }
reads TextEnd line None new from ended h long = record { kind = tt; bytes = tt; past = past line }
  where
    past : (line : List ℕ) → MovesPast (last_line line) None new
    past [] = tt
    past (byte ∷ l) = at (leb (length (byte ∷ l)) MAX_LINE_LEN)
      where
        at : (b : Bool) → MovesPast (cond b Whole TooLong) None new
        at true = tt
        at false = tt
reads Full line None new from ended h long = record { kind = tt; bytes = tt; past = tt }
reads stop line (Some text) None from ended h long = absurd from
reads stop line (Some text) (Some left) from ended h long = reads_known stop line text left from ended h long

-- what is kept is no longer than the longest line
pub kept_short : (stop : Stop) (line : List ℕ) → is_too_long line ≡ is_full stop → length (kept_at stop line) ≤ MAX_LINE_LEN
kept_short LineEnd line long = ltb-false _ _ long
kept_short TextEnd line long = omega (arith, length-take MAX_LINE_LEN line)
kept_short Full line long = omega (arith, length-take MAX_LINE_LEN line)
