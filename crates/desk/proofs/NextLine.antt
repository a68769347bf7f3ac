-- What the next line of a text comes to, where it is read whole.
use Rattle.std.proofs.Common.{◌≡◌, ℕ, Bool, true, false, cond, List, [], ◌∷◌, length, take, Some, None, Option, IfSome, refl, sym, ap, ◌∙◌, subst, take_all}
use Rattle.std.specs.Io.BufRead.{drop_through, first_line}
use Rattle.std.proofs.lemmas.Bool.{leb-true}
use Rattle.textlines.specs.declared.TheConstants.{MAX_LINE_LEN}
use Rattle.textlines.specs.declared.reading.Line.{Line}
use Rattle.textlines.specs.declared.reading.Line.TheVariants.{Whole, TooLong, Ended}
use Rattle.textlines.specs.Lines.{next_line, MovesPast}
use Rattle.desk.specs.declared.hearing.Heard.{Heard}
use Rattle.desk.specs.Heard.{heard_in, next_heard}

whole_ended : Whole ≡ Ended → ⊥
whole_ended e = cc

whole_long : Whole ≡ TooLong → ⊥
whole_long e = cc

short_if : (b : Bool) → Whole ≡ cond b Whole TooLong → b ≡ true
short_if true e = refl
short_if false e = absurd (whole_long e)

-- a whole line is all of the first one
all_of : (text line : List ℕ) → Whole ≡ next_line text → line ≡ take MAX_LINE_LEN (first_line text) → Some (heard_in line) ≡ next_heard text
all_of [] line kind bytes = absurd (whole_ended kind)
all_of (byte ∷ text) line kind bytes =
    let short = leb-true (length (first_line (byte ∷ text))) MAX_LINE_LEN (short_if _ kind) in
    ap (λ l. Some (heard_in l)) (bytes ∙ take_all MAX_LINE_LEN (first_line (byte ∷ text)) short)

pub heard_whole : (old new : Option (List ℕ)) (line : List ℕ) (heard : Heard) (kind : Line) → kind ≡ Whole
    → IfSome old (λ text. kind ≡ next_line text) → IfSome old (λ text. line ≡ take MAX_LINE_LEN (first_line text)) → MovesPast kind old new → heard ≡ heard_in line
    → IfSome old (λ text. (Some heard ≡ next_heard text) × (new ≡ Some (drop_through 10 text)))
heard_whole None new line heard kind whole is bytes past h = tt
heard_whole (Some text) new line heard kind whole is bytes past h =
    let P : Line → Type 0 = λ k. MovesPast k (Some text) new in
    (ap Some h ∙ all_of text line (sym whole ∙ is) bytes, subst P whole past)
