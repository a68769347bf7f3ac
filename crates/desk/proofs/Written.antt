-- What is written of the lines so far, and what those that are left bring.
use Rattle.std.proofs.Common.{◌≡◌, ℕ, ◌<◌, List, [], ◌∷◌, ◌++◌, length, Some, None, Option, IfSome, refl, sym, ap, ◌∙◌, arith, append_assoc, append-nil}
use Rattle.std.specs.Prelude.{IsSomeAnd, unwrap_or}
use Rattle.std.specs.Io.KnownBytes.{Appends}
use Rattle.std.specs.Io.BufRead.{drop_through, first_line}
use Rattle.std.specs.Str.Lines.{lines}
use Rattle.joining.specs.declared.Joining.{Ghosts}
use Rattle.shiftlog.specs.declared.readings.Reading.{Reading}
use Rattle.accumulator.specs.LentCells.{CellChanges}
use Rattle.textlines.proofs.FirstLine.{lines-first}
use Rattle.desk.specs.declared.hearing.Heard.{Heard}
use Rattle.desk.specs.Heard.{heard_in, next_heard}
use Rattle.desk.specs.Sittings.{Sitting, heard_step, written}

-- ---- bytes of a writer

pub Appends-none : (old : Option (List ℕ)) → Appends old old []
Appends-none None = tt
Appends-none (Some xs) = sym (append-nil xs)

Appends-more : (a b c : Option (List ℕ)) (xs ys : List ℕ) → Appends a b xs → Appends b c ys → Appends a c (xs ++ ys)
Appends-more None b c xs ys h k = tt
Appends-more (Some a) None c xs ys h k = absurd h
Appends-more (Some a) (Some b) None xs ys h k = absurd k
Appends-more (Some a) (Some b) (Some c) xs ys h k = k ∙ ap (λ l. l ++ ys) h ∙ append_assoc a xs ys

-- ---- all that is to be written, of which some has been

abbrev pub Continues : Option (List ℕ) → Option (List ℕ) → Option (List ℕ) → Option (List ℕ) → (List ℕ → List ℕ) → (List ℕ → List ℕ) → Type 0
Continues out now given left all others =
    IfSome given (λ text. IsSomeAnd left (λ rest. (bytes : List ℕ) × Appends out now bytes × (all text ≡ bytes ++ others rest)))

pub begins : (out given : Option (List ℕ)) (all : List ℕ → List ℕ) → Continues out out given given all all
begins out None all = tt
begins out (Some text) all = ([], Appends-none out, refl)

-- one line more, for which some bytes are written
pub goes_on : (out now then given left behind : Option (List ℕ)) (all others after : List ℕ → List ℕ) (bytes : List ℕ) → Continues out now given left all others → Appends now then bytes
    → IfSome left (λ rest. (behind ≡ Some (drop_through 10 rest)) × (others rest ≡ bytes ++ after (drop_through 10 rest))) → Continues out then given behind all after
goes_on out now then None left behind all others after bytes h k next = tt
goes_on out now then (Some text) None behind all others after bytes h k next = absurd h
goes_on out now then (Some text) (Some rest) None all others after bytes h k next = absurd (none_is_some next.0)
  where
    none_is_some : {x : List ℕ} → None ≡ Some x → ⊥
    none_is_some e = cc
goes_on out now then (Some text) (Some rest) (Some left) all others after bytes h k next =
    let is : left ≡ drop_through 10 rest = ap (λ o. unwrap_or o left) next.0 in
    (h.0 ++ bytes, Appends-more out now then h.0 bytes h.1 k, h.2 ∙ ap (λ l. h.0 ++ l) (next.1 ∙ ap (λ l. bytes ++ after l) (sym is)) ∙ sym (append_assoc h.0 bytes (after left)))

-- no line is left
pub ends : (out now given left : Option (List ℕ)) (all others : List ℕ → List ℕ) → Continues out now given left all others → IfSome left (λ rest. others rest ≡ [])
    → IfSome given (λ text. Appends out now (all text))
ends out now None left all others h none = tt
ends out now (Some text) None all others h none = absurd h
ends out now (Some text) (Some rest) all others h none =
    rw (h.2 ∙ ap (λ l. h.0 ++ l) none ∙ append-nil h.0) h.1

-- ---- the next line of a text

heard_is : (text : List ℕ) (heard : Heard) → Some heard ≡ next_heard text → (0 < length text) × (heard ≡ heard_in (first_line text))
heard_is [] heard e = absurd (some_is_none e)
  where
    some_is_none : {x : Heard} → Some x ≡ None → ⊥
    some_is_none e = cc
heard_is (byte ∷ text) heard e = (omega arith, ap (λ o. unwrap_or o heard) e)

module _ {V : Type 0} (J : Ghosts V) (changes : CellChanges V) (part_of : Reading → V) (text : V → List ℕ) where
  abbrev pub to_write : Sitting V → List ℕ → List ℕ
  to_write s given = written J changes part_of text s (lines given)

  pub by_line : (s : Sitting V) (given : List ℕ) (heard : Heard) → Some heard ≡ next_heard given
      → to_write s given ≡ (heard_step J changes part_of text s heard).0 ++ to_write (heard_step J changes part_of text s heard).1 (drop_through 10 given)
  by_line s given heard e =
      let h = heard_is given heard e in
      let bring : Heard → List ℕ = λ it. (heard_step J changes part_of text s it).0 ++ to_write (heard_step J changes part_of text s it).1 (drop_through 10 given) in
      ap (written J changes part_of text s) (lines-first given h.0) ∙ ap bring (sym h.1)

  pub by_end : (s : Sitting V) (given : List ℕ) → None ≡ next_heard given → to_write s given ≡ []
  by_end s [] e = refl
  by_end s (byte ∷ given) e = absurd (none_is_some e)
    where
      none_is_some : {x : Heard} → None ≡ Some x → ⊥
      none_is_some e = cc

  -- no line is left
  pub by_no_line : (s : Sitting V) (left behind : Option (List ℕ)) (next : Option Heard) → next ≡ None
      → IfSome left (λ given. (next ≡ next_heard given) × (behind ≡ Some (drop_through 10 given))) → IfSome left (λ given. to_write s given ≡ [])
  by_no_line s None behind next none is = tt
  by_no_line s (Some given) behind next none is = by_end s given (sym none ∙ is.0)

  step_brings : (s t : Sitting V) (left behind : Option (List ℕ)) (next : Option Heard) (heard : Heard) → next ≡ Some heard
      → IfSome left (λ given. (next ≡ next_heard given) × (behind ≡ Some (drop_through 10 given))) → t ≡ (heard_step J changes part_of text s heard).1
      → IfSome left (λ given. (behind ≡ Some (drop_through 10 given)) × (to_write s given ≡ (heard_step J changes part_of text s heard).0 ++ to_write t (drop_through 10 given)))
  step_brings s t None behind next heard some is after = tt
  step_brings s t (Some given) behind next heard some is after =
      (is.1, by_line s given heard (sym some ∙ is.0) ∙ ap (λ u. (heard_step J changes part_of text s heard).0 ++ to_write u (drop_through 10 given)) (sym after))

  -- a line more
  pub one_more : (out now then given left behind : Option (List ℕ)) (all : List ℕ → List ℕ) (s t : Sitting V) (next : Option Heard) (heard : Heard) → Continues out now given left all (to_write s)
      → next ≡ Some heard → IfSome left (λ text. (next ≡ next_heard text) × (behind ≡ Some (drop_through 10 text))) → Appends now then (heard_step J changes part_of text s heard).0
      → t ≡ (heard_step J changes part_of text s heard).1 → Continues out then given behind all (to_write t)
  one_more out now then given left behind all s t next heard h some is bytes after =
      goes_on out now then given left behind all (to_write s) (to_write t) (heard_step J changes part_of text s heard).0 h bytes (step_brings s t left behind next heard some is after)
