-- The cells of the lazy accumulator, slot by slot.
use Rattle.std.proofs.Common.{◌≡◌, ℕ, zero, suc, ◌+◌, ◌*◌, ◌<◌, ◌≤◌, ◌≢◌, List, [], ◌∷◌, ◌++◌, length, get_or, take, drop, set, replicate, sym, refl, ap, ◌∙◌, ⊎_elim, le_refl, arith, length-append, length-set}
use Rattle.std.proofs.lemmas.List.{get_or-set_same, get_or-set_other, get_or-take, get_or_past, get_or-replicate, length-replicate, length-take-le, drop-set-lt, get_or_append_left}
use Rattle.std.proofs.Math.Seq.{take-set-lt}
use Rattle.std.proofs.lemmas.Bool.{cases_eq, cases_lt}
use Rattle.joining.specs.declared.Joining.{Ghosts}
use Rattle.joining.specs.Laws.{CommutativeMonoid}
use Rattle.joining.specs.Lists.{joining_of}
use Rattle.joining.specs.Every.{cells_in_steps}
use Rattle.joining.proofs.Steps.{every_at, every_other}
use Rattle.joining.proofs.Joinings.{joining_cons, joining_every_grown}
use Rattle.accumulator.specs.declared.TheConstants.{KEPT}
use Rattle.accumulator.specs.Changed.{OneChanged}
use Rattle.accumulator.specs.Lazy.{slot_total, with_neutral_front, without_slot}

module _ {V : Type 0} where
  module _ (J : Ghosts V) (xs : List V) (slot : ℕ) (within : slot < KEPT) where
    pub length-wiped : (n : ℕ) → length (without_slot J slot n xs) ≡ length xs
    length-wiped zero = refl
    length-wiped (suc n) = length-set (without_slot J slot n xs) (KEPT * n + slot) J.neutral ∙ length-wiped n

    -- further cells stay
    pub drop_wiped : (limit n : ℕ) → n ≤ limit → drop (KEPT * limit) (without_slot J slot n xs) ≡ drop (KEPT * limit) xs
    drop_wiped limit zero h = refl
    drop_wiped limit (suc n) h = drop-set-lt (KEPT * limit) (without_slot J slot n xs) (KEPT * n + slot) J.neutral (omega arith) ∙ drop_wiped limit n (omega arith)

    pub get_or-wiped : (n k : ℕ) → k < n → KEPT * n ≤ length xs → get_or (without_slot J slot n xs) (KEPT * k + slot) J.neutral ≡ J.neutral
    get_or-wiped zero k h room = absurd (omega arith)
    get_or-wiped (suc n) k h room =
        let ys : List V = without_slot J slot n xs in
        let i : ℕ = KEPT * n + slot in
        ⊎_elim
        (λ (e : k ≡ n). ap (λ j. get_or (set ys i J.neutral) (KEPT * j + slot) J.neutral) e ∙ get_or-set_same ys i J.neutral J.neutral (omega (arith, length-wiped n)))
        (λ (ne : k ≢ n). get_or-set_other ys i (KEPT * k + slot) J.neutral J.neutral (λ e. omega arith) ∙ get_or-wiped n k (omega arith) (omega arith))
        (cases_eq k n)

    -- the cells of another slot stay
    pub wiped_other : (n k other : ℕ) → other < KEPT → other ≢ slot → get_or (without_slot J slot n xs) (KEPT * k + other) J.neutral ≡ get_or xs (KEPT * k + other) J.neutral
    wiped_other zero k other h ne = refl
    wiped_other (suc n) k other h ne = get_or-set_other (without_slot J slot n xs) (KEPT * n + slot) (KEPT * k + other) J.neutral J.neutral (λ e. omega arith) ∙ wiped_other n k other h ne

  module _ {J : Ghosts V} (laws : CommutativeMonoid J.neutral J.joined) where
    joining_neutral : (ys : List V) → ((k : ℕ) → get_or ys k J.neutral ≡ J.neutral) → joining_of J ys ≡ J.neutral
    joining_neutral [] all = refl
    joining_neutral (y ∷ ys) all = joining_cons laws y ys ∙ ap (λ v. J.joined v (joining_of J ys)) (all 0) ∙ laws.neutral_left (joining_of J ys) ∙ joining_neutral ys (λ k. all (suc k))

    module _ (xs : List V) (limit slot : ℕ) (within : slot < KEPT) (room : KEPT * limit ≤ length xs) where
      -- a value joined to a station's cell is joined to its slot's total
      slot_total_added : (station : ℕ) (d x : V) → station < limit → slot_total J limit (set xs (KEPT * station + slot) (J.joined (get_or xs (KEPT * station + slot) d) x)) slot ≡ J.joined (slot_total J limit xs slot) x
      slot_total_added station d x below =
          let n : ℕ = KEPT * limit in
          let i : ℕ = KEPT * station + slot in
          let ys : List V = take n xs in
          let long : length ys ≡ n = length-take-le n xs room in
          ap (λ zs. joining_of J (cells_in_steps slot KEPT zs))
          (take-set-lt n xs i (J.joined (get_or xs i d) x) (omega arith) ∙ ap (λ v. set ys i (J.joined v x)) (sym (get_or-take n xs i d (omega arith))))
          ∙ joining_every_grown laws ys slot KEPT station i d x (omega arith) (omega arith) (omega arith)

      -- a write to another slot's cell
      slot_total_other : (station other : ℕ) (y : V) → station < limit → other < KEPT → other ≢ slot → slot_total J limit (set xs (KEPT * station + slot) y) other ≡ slot_total J limit xs other
      slot_total_other station other y below h ne =
          let n : ℕ = KEPT * limit in
          let i : ℕ = KEPT * station + slot in
          ap (joining_of J) (ap (cells_in_steps other KEPT) (take-set-lt n xs i y (omega arith)) ∙ every_other (take n xs) other KEPT (omega arith) i y (λ k e. omega arith))

      -- a station's cell is written: its slot's total has the value joined, and the others stay
      pub cell_joined : (station : ℕ) (d x y : V) → station < limit → y ≡ J.joined (get_or xs (KEPT * station + slot) d) x → OneChanged (slot_total J limit xs) (slot_total J limit (set xs (KEPT * station + slot) y)) slot (J.joined (slot_total J limit xs slot) x)
      cell_joined station d x y below is = record {
        here = ap (λ z. slot_total J limit (set xs (KEPT * station + slot) z) slot) is ∙ slot_total_added station d x below;
        other = λ r h ne. slot_total_other station r y below h ne;
      }

      slot_total_neutral : ((station : ℕ) → station < limit → get_or xs (KEPT * station + slot) J.neutral ≡ J.neutral) → slot_total J limit xs slot ≡ J.neutral
      slot_total_neutral all =
          let n : ℕ = KEPT * limit in
          let ys : List V = take n xs in
          let long : length ys ≡ n = length-take-le n xs room in
          joining_neutral (cells_in_steps slot KEPT ys)
          (λ k.
          let i : ℕ = KEPT * k + slot in
          every_at ys slot KEPT (omega arith) k i J.neutral (omega arith)
          ∙ ⊎_elim
          (λ (lt : k < limit). get_or-take n xs i J.neutral (omega arith) ∙ all k lt)
          (λ (ge : limit ≤ k). get_or_past ys i J.neutral (omega arith))
          (cases_lt k limit))

    module _ (xs : List V) (limit slot : ℕ) (within : slot < KEPT) (room : KEPT * limit ≤ length xs) where
      slot_total_wiped : slot_total J limit (without_slot J slot limit xs) slot ≡ J.neutral
      slot_total_wiped =
          let ys : List V = without_slot J slot limit xs in
          slot_total_neutral ys limit slot within (omega (arith, length-wiped J xs slot within limit)) (λ k lt. get_or-wiped J xs slot within limit k lt room)

      slot_total_stays : (n other : ℕ) → n ≤ limit → other < KEPT → other ≢ slot → slot_total J limit (without_slot J slot n xs) other ≡ slot_total J limit xs other
      slot_total_stays zero other h k ne = refl
      slot_total_stays (suc n) other h k ne =
          slot_total_other (without_slot J slot n xs) limit slot within (omega (arith, length-wiped J xs slot within n)) n other J.neutral (omega arith) k ne
          ∙ slot_total_stays n other (omega arith) k ne

      -- the slot's cells are neutral, and so is its total, and the others stay
      pub cells_wiped : OneChanged (slot_total J limit xs) (slot_total J limit (without_slot J slot limit xs)) slot J.neutral
      cells_wiped = record { here = slot_total_wiped; other = λ r h ne. slot_total_stays limit r (le_refl limit) h ne }

      pub slot_total_cleared : slot_total J limit (with_neutral_front J (KEPT * limit) xs) slot ≡ J.neutral
      slot_total_cleared =
          let n : ℕ = KEPT * limit in
          let clear : List V = replicate n J.neutral in
          let rest : List V = drop n xs in
          let long : length clear ≡ n = length-replicate n J.neutral in
          slot_total_neutral (clear ++ rest) limit slot within (omega (arith, length-append clear rest))
          (λ k lt. get_or_append_left clear rest J.neutral (KEPT * k + slot) (omega arith) ∙ get_or-replicate n (KEPT * k + slot) J.neutral J.neutral (omega arith))
