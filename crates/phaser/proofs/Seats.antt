-- A map after one change, seats as such maps, and tests of modes.
use Rattle.std.proofs.Common.{◌≢◌, ◌≡◌, ℕ, ◌<◌, Bool, true, false, cond, eqb, ◌⊎◌, List, length, get_or, set, replicate, Some, None, Option, sym, refl, ap, ◌∙◌, subst, inl, inr, ⊎_elim, arith}
use Rattle.std.proofs.lemmas.List.{get_or-set_same, get_or-set_other, length-replicate, get_or-replicate, get_or_past}
use Rattle.std.proofs.lemmas.Bool.{cases_eq, cases_lt, eq-eqb, ne_eqb, cond-true, cond-false, false≢true}
use Rattle.refusal.specs.declared.limits.TheConstants.{STATIONS}
use Rattle.joining.specs.declared.Joining.{Ghosts}
use Rattle.calls.specs.declared.Mode.{Mode}
use Rattle.calls.specs.declared.Mode.TheVariants.{SignalWait, SignalOnly, WaitOnly}
use Rattle.calls.specs.declared.views.View.{View}
use Rattle.phaser.specs.State.{State, seat, first_view, new_state}
use Rattle.phaser.specs.Rules.{Phaser, put, PhaserState}
use Rattle.phaser.specs.Limits.{is_sw, Shows}

pub none_some : {X : Type 0} (v : X) → ¬ (None ≡ Some v)
none_some v e = let z : ◌≡◌ {A = ℕ} 0 1 = cc in omega arith

pub same_view : (v w : View) → Some v ≡ Some w → v ≡ w
same_view v w e = cc

pub true_false : (b : Bool) → b ≡ true → b ≢ false
true_false b e f = false≢true (sym f ∙ e)

pub sw_mode : (m : Mode) → is_sw m ≡ true → m ≡ SignalWait
sw_mode SignalWait e = refl
sw_mode SignalOnly e = absurd (false≢true e)
sw_mode WaitOnly e = absurd (false≢true e)

-- the map at the place of the change, and elsewhere
pub put_cases : {Y : Type 0} (f : ℕ → Y) (t : ℕ) (y : Y) (k : ℕ) → ((k ≡ t) × (put f t y k ≡ y)) ⊎ ((k ≢ t) × (put f t y k ≡ f k))
put_cases f t y k =
    ⊎_elim (λ e. inl (e, cond-true (eqb k t) y (f k) (eq-eqb k t e))) (λ ne. inr (ne, cond-false (eqb k t) y (f k) (ne_eqb k t ne))) (cases_eq k t)

-- the seats that a shown board has
pub shown_seat : {V : Type 0} (J : Ghosts V) (t : State V) (d : PhaserState V) (P : Phaser) → Shows J t d → d.phaser ≡ P → (k : ℕ) → seat t k ≡ P k
shown_seat J t d P h e k = h.seats k ∙ ap (λ (Q : Phaser). Q k) e

abbrev pub Everyone : {V : Type 0} → (View → Type 0) → State V → Type 0
Everyone P s = (k : ℕ) (v : View) → seat s k ≡ Some v → P v

pub everyone_put : {V : Type 0} (P : View → Type 0) (s t : State V) (j : ℕ) (o : Option View) → ((k : ℕ) → seat t k ≡ put (seat s) j o k) → ((v : View) → o ≡ Some v → P v) → Everyone P s → Everyone P t
everyone_put P s t j o at new old k v e =
    ⊎_elim (λ c. new v (sym c.1 ∙ sym (at k) ∙ e)) (λ c. old k v (sym c.1 ∙ sym (at k) ∙ e)) (put_cases (seat s) j o k)

pub of_some : (P : View → Type 0) (v w : View) → Some v ≡ Some w → P v → P w
of_some P v w e h = subst P (same_view v w e) h

-- a list after a write is the map after it
pub get_or-put : {X : Type 0} (xs : List X) (i : ℕ) (y d : X) → i < length xs → (k : ℕ) → get_or (set xs i y) k d ≡ put (λ n. get_or xs n d) i y k
get_or-put xs i y d h k =
    ⊎_elim
    (λ c. ap (λ (n : ℕ). get_or (set xs i y) n d) c.0 ∙ get_or-set_same xs i y d h ∙ sym c.1)
    (λ c. get_or-set_other xs i k y d c.0 ∙ sym c.1)
    (put_cases (λ n. get_or xs n d) i y k)

-- the seats of a board just made
pub made_seat : {V : Type 0} (J : Ghosts V) (j : ℕ) (mode : Mode) (limit : ℕ) → j < STATIONS → (k : ℕ) → seat (new_state J j mode limit) k ≡ put (λ i. None) j (Some (first_view mode)) k
made_seat J j mode limit h k =
    let empty : List (Option View) = replicate STATIONS None in
    let size : length empty ≡ STATIONS = length-replicate {A = Option View} STATIONS None in
    let vacant : get_or empty k None ≡ None
    = ⊎_elim (λ lt. get_or-replicate STATIONS k None None lt) (λ ge. get_or_past empty k None (omega arith)) (cases_lt k STATIONS) in
    get_or-put empty j (Some (first_view mode)) None (omega arith) k ∙ ap (λ (o : Option View). cond (eqb k j) (Some (first_view mode)) o) vacant
