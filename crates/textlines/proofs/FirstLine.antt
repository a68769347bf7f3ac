-- The first line of a text, and that `lines` gives it first.
use Rattle.std.proofs.Common.{◌≡◌, ◌≢◌, ℕ, ◌-◌, ◌<◌, ◌≤◌, Bool, true, false, cond, ◌&&◌, eqb, ◌⊎◌, inl, inr, List, [], ◌∷◌, ◌++◌, length, take, get_or, All, refl, sym, ap, ◌∙◌, arith, append-nil, append_assoc, length-append, length-take, take_all, take-take}
use Rattle.std.specs.Str.Lines.{lines, lines_of_parts, strip_carriage_return}
use Rattle.std.specs.List.{slice_split}
use Rattle.std.specs.Io.BufRead.{take_through, drop_through, ends_with_byte, strip_last, first_line}
use Rattle.std.proofs.lemmas.Bool.{and_from, and_right, cond-true, cond-false, eq-eqb, ne_eqb, lt-ltb, cases_eq}
use Rattle.std.proofs.lemmas.List.{get_or_at, take-append-le}
use Rattle.std.proofs.lemmas.List.Elements.{All-nil, All-cons, All-append, All-weaker}
use Rattle.std.proofs.lemmas.List.Splits.{slice_split_at, slice_split_none, length-slice_split}
use Rattle.std.proofs.Math.Seq.{take-append_seam}
use Rattle.std.proofs.BufReadLemmas.{take_through-append, drop_through-append}

abbrev pub IsOneLine : List ℕ → Type 0
IsOneLine bytes = All (λ byte. byte ≢ 10) bytes

-- ---- a last byte that is cut off

module _ (byte : ℕ) where
  ends-none : (xs : List ℕ) → All (λ x. x ≢ byte) xs → ends_with_byte byte xs ≡ false
  ends-none [] h = refl
  ends-none (x ∷ xs) h = and_right _ _ (ne_eqb _ _ (h (length (x ∷ xs) - 1) 0 (omega arith)))

  ends-last : (xs : List ℕ) → ends_with_byte byte (xs ++ byte ∷ []) ≡ true
  ends-last xs =
      let all = length-append xs (byte ∷ []) in
      let some : 0 < length (xs ++ byte ∷ []) = omega arith in
      let last : length xs ≡ length (xs ++ byte ∷ []) - 1 = omega arith in
      and_from _ _ (lt-ltb _ _ some) (eq-eqb _ _ (get_or_at xs byte [] 0 _ last))

  strip_last-none : (xs : List ℕ) → All (λ x. x ≢ byte) xs → strip_last byte xs ≡ xs
  strip_last-none xs h = cond-false _ _ _ (ends-none xs h)

  strip_last-last : (xs : List ℕ) → strip_last byte (xs ++ byte ∷ []) ≡ xs
  strip_last-last xs =
      let all = length-append xs (byte ∷ []) in
      let last : length (xs ++ byte ∷ []) - 1 ≡ length xs = omega arith in
      cond-true _ _ _ (ends-last xs) ∙ ap (λ n. take n (xs ++ byte ∷ [])) last ∙ take-append_seam xs (byte ∷ [])

  pub length-strip_last : (xs : List ℕ) → (length xs - 1 ≤ length (strip_last byte xs)) × (length (strip_last byte xs) ≤ length xs)
  length-strip_last xs = at (ends_with_byte byte xs)
    where
      at : (b : Bool) → (length xs - 1 ≤ length (cond b (take (length xs - 1) xs) xs)) × (length (cond b (take (length xs - 1) xs) xs) ≤ length xs)
      at true = let long = length-take (length xs - 1) xs in (omega arith, omega arith)
      at false = (omega arith, omega arith)

  -- what is cut off stands at the end
  pub take-strip_last : (n : ℕ) (xs : List ℕ) → n ≤ length (strip_last byte xs) → take n (strip_last byte xs) ≡ take n xs
  take-strip_last n xs h = at (ends_with_byte byte xs) h
    where
      at : (b : Bool) → n ≤ length (cond b (take (length xs - 1) xs) xs) → take n (cond b (take (length xs - 1) xs) xs) ≡ take n xs
      at true h = let long = length-take (length xs - 1) xs in take-take n (length xs - 1) xs (omega arith)
      at false h = refl

  pub take_length-strip_last : (xs : List ℕ) → take (length (strip_last byte xs)) xs ≡ strip_last byte xs
  take_length-strip_last xs =
      let n = length (strip_last byte xs) in
      sym (take-strip_last n xs (omega arith)) ∙ take_all n (strip_last byte xs) (omega arith)

-- ---- the first line of a text that is cut at its newline, or has none

without_line_end : List ℕ → List ℕ
without_line_end bytes = cond (ends_with_byte 10 bytes) (strip_last 13 (strip_last 10 bytes)) (strip_last 10 bytes)

pub first_line-ended : (xs ys : List ℕ) → IsOneLine xs → first_line (xs ++ 10 ∷ ys) ≡ strip_last 13 xs
unfolding without_line_end
first_line-ended xs ys h =
    ap without_line_end (take_through-append 10 xs (10 ∷ ys) h) ∙ cond-true _ _ _ (ends-last 10 xs) ∙ ap (strip_last 13) (strip_last-last 10 xs)

pub drop_through-ended : (xs ys : List ℕ) → IsOneLine xs → drop_through 10 (xs ++ 10 ∷ ys) ≡ ys
drop_through-ended xs ys h = drop_through-append 10 xs (10 ∷ ys) h

pub first_line-last : (xs : List ℕ) → IsOneLine xs → first_line xs ≡ xs
unfolding without_line_end
first_line-last xs h =
    let all : take_through 10 xs ≡ xs = sym (ap (take_through 10) (append-nil xs)) ∙ take_through-append 10 xs [] h ∙ append-nil xs in
    ap without_line_end all ∙ cond-false _ _ _ (ends-none 10 xs h) ∙ strip_last-none 10 xs h

pub drop_through-last : (xs : List ℕ) → IsOneLine xs → drop_through 10 xs ≡ []
drop_through-last xs h = sym (ap (drop_through 10) (append-nil xs)) ∙ drop_through-append 10 xs [] h

-- a text with a newline
record Cut (text : List ℕ) : Type 0 where
  line : List ℕ
  behind : List ℕ
  whole : text ≡ line ++ 10 ∷ behind
  one_line : IsOneLine line

cut : (text : List ℕ) → IsOneLine text ⊎ Cut text
cut [] = inl (All-nil (λ x. x ≢ 10))
cut (byte ∷ text) = at (cases_eq byte 10) (cut text)
  where
    at : (byte ≡ 10) ⊎ (byte ≡ 10 → ⊥) → IsOneLine text ⊎ Cut text → IsOneLine (byte ∷ text) ⊎ Cut (byte ∷ text)
    at (inl newline) c = inr (record { line = []; behind = text; whole = ap (λ x. x ∷ text) newline; one_line = All-nil (λ x. x ≢ 10) })
    at (inr other) (inl all) = inl (All-cons (λ x. x ≢ 10) byte text other all)
    at (inr other) (inr c) = inr (record { line = byte ∷ c.line; behind = c.behind; whole = ap (λ l. byte ∷ l) c.whole; one_line = All-cons (λ x. x ≢ 10) byte c.line other c.one_line })

-- ---- the first bytes of a line that is too long

strip_last-front : (byte n : ℕ) (xs us : List ℕ) → n < length (strip_last byte xs)
    → (n < length (strip_last byte (xs ++ us))) × (take n (strip_last byte (xs ++ us)) ≡ take n xs)
strip_last-front byte n xs [] long =
    let same = ap (strip_last byte) (append-nil xs) in
    let size = ap length same in
    (omega arith, ap (take n) same ∙ take-strip_last byte n xs (omega arith))
strip_last-front byte n xs (u ∷ us) long =
    let own = length-strip_last byte xs in
    let more = length-strip_last byte (xs ++ u ∷ us) in
    let all = length-append xs (u ∷ us) in
    (omega arith, take-strip_last byte n (xs ++ u ∷ us) (omega arith) ∙ take-append-le n xs (u ∷ us) (omega arith))

pub first_line-front : (n : ℕ) (xs ys : List ℕ) → IsOneLine xs → n < length (strip_last 13 xs)
    → (n < length (first_line (xs ++ ys))) × (take n (first_line (xs ++ ys)) ≡ take n xs)
first_line-front n xs ys h long = at (cut ys)
  where
    at : IsOneLine ys ⊎ Cut ys → (n < length (first_line (xs ++ ys))) × (take n (first_line (xs ++ ys)) ≡ take n xs)
    at (inl all) =
        let own = length-strip_last 13 xs in
        let is = first_line-last (xs ++ ys) (All-append (λ x. x ≢ 10) xs ys h all) in
        let size = ap length is in
        let both = length-append xs ys in
        (omega arith, ap (take n) is ∙ take-append-le n xs ys (omega arith))
    at (inr c) =
        let joined : xs ++ ys ≡ (xs ++ c.line) ++ 10 ∷ c.behind = ap (λ l. xs ++ l) c.whole ∙ sym (append_assoc xs c.line (10 ∷ c.behind)) in
        let is = ap first_line joined ∙ first_line-ended (xs ++ c.line) c.behind (All-append (λ x. x ≢ 10) xs c.line h c.one_line) in
        let front = strip_last-front 13 n xs c.line long in
        let size = ap length is in
        (omega (arith, front.0), ap (take n) is ∙ front.1)

-- ---- `lines`

carriage_return : (xs : List ℕ) → strip_carriage_return xs ≡ strip_last 13 xs
carriage_return [] = refl
carriage_return (x ∷ xs) =
    let all = x ∷ xs in
    let some : 0 < length all = omega arith in
    ap (λ b. cond (b && eqb (get_or all (length all - 1) 0) 13) (take (length all - 1) all) all) (sym (lt-ltb 0 (length all) some))

lines_of_parts-more : (x : List ℕ) (parts : List (List ℕ)) → 0 < length parts → lines_of_parts (x ∷ parts) ≡ strip_carriage_return x ∷ lines_of_parts parts
lines_of_parts-more x [] some = absurd (omega arith)
lines_of_parts-more x (y ∷ more) some = refl

lines-ended : (xs ys : List ℕ) → IsOneLine xs → lines (xs ++ 10 ∷ ys) ≡ strip_last 13 xs ∷ lines ys
lines-ended xs ys h =
    let newline : ℕ → Bool = λ x. eqb x 10 in
    let parts = slice_split newline ys in
    let some : 0 < length parts = omega (arith, length-slice_split newline ys) in
    ap lines_of_parts (slice_split_at newline xs 10 ys (All-weaker (λ x. x ≢ 10) (λ x. newline x ≡ false) (λ x other. ne_eqb x 10 other) xs h) refl)
    ∙ lines_of_parts-more xs parts some ∙ ap (λ l. l ∷ lines ys) (carriage_return xs)

lines-last : (xs : List ℕ) → IsOneLine xs → 0 < length xs → lines xs ≡ xs ∷ []
lines-last xs h some =
    let newline : ℕ → Bool = λ x. eqb x 10 in
    ap lines_of_parts (slice_split_none newline xs (All-weaker (λ x. x ≢ 10) (λ x. newline x ≡ false) (λ x other. ne_eqb x 10 other) xs h))
    ∙ cond-false _ _ _ (ne_eqb (length xs) 0 (λ none. omega arith))

-- the lines of a text are its first line, and those of what is behind it
pub lines-first : (text : List ℕ) → 0 < length text → lines text ≡ first_line text ∷ lines (drop_through 10 text)
lines-first text some = at (cut text)
  where
    from : (line behind : List ℕ) → first_line text ≡ line → drop_through 10 text ≡ behind → line ∷ lines behind ≡ first_line text ∷ lines (drop_through 10 text)
    from line behind first rest = ap (λ l. l ∷ lines behind) (sym first) ∙ ap (λ l. first_line text ∷ lines l) (sym rest)

    at : IsOneLine text ⊎ Cut text → lines text ≡ first_line text ∷ lines (drop_through 10 text)
    at (inl all) = lines-last text all some ∙ from text [] (first_line-last text all) (drop_through-last text all)
    at (inr c) =
        ap lines c.whole ∙ lines-ended c.line c.behind c.one_line
        ∙ from _ c.behind (ap first_line c.whole ∙ first_line-ended c.line c.behind c.one_line) (ap (drop_through 10) c.whole ∙ drop_through-ended c.line c.behind c.one_line)
