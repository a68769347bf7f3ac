-- Calls on a lazy accumulator, one after another: each cell has the values of its own station.
use Rattle.std.proofs.Common.{◌≡◌, ℕ, ◌+◌, ◌*◌, ◌<◌, ◌≤◌, ◌≢◌, Bool, true, false, eqb, ◌&&◌, cond, List, [], ◌∷◌, ◌++◌, length, get_or, drop, set, replicate, Ok, Err, Some, None, Option, Result, sym, subst, refl, ap, ◌∙◌, ⊎_elim, arith, length-append, length-set, append_assoc, append-nil}
use Rattle.std.proofs.lemmas.List.{get_or-set_same, get_or-set_other, get_or-replicate, length-replicate, drop-set-lt, get_or_append_left}
use Rattle.std.proofs.lemmas.List.Sums.{fold-append}
use Rattle.std.specs.Prelude.{slice_get, zip}
use Rattle.std.proofs.lemmas.Option.{slice_get-get_or}
use Rattle.std.proofs.lemmas.Bool.{cases_eq, cases_lt, eq-eqb, ne_eqb, and_from, and_left, and_right}
use Rattle.refusal.specs.Rules.{Verdict, verdict}
use Rattle.refusal.specs.Trace.{trace}
use Rattle.joining.specs.declared.Joining.{Ghosts}
use Rattle.joining.specs.Lists.{joining_of}
use Rattle.accumulator.specs.declared.histories.Call.{Call}
use Rattle.accumulator.specs.declared.histories.Call.TheVariants.{Add, Total, MoveOn}
use Rattle.accumulator.specs.Window.{slot_of, keeps, add_rules, move_on_rules}
use Rattle.accumulator.specs.declared.TheConstants.{KEPT}
use Rattle.accumulator.specs.Meaning.{Meaning, answer_by, meaning_by, with_value, without_first, new_meaning}
use Rattle.accumulator.specs.LentCells.{Lent, with_values, unless_refused}
use Rattle.accumulator.specs.Calls.{CallAnswer, Account, new_account, meaning_step, cell_change, account_step}
use Rattle.accumulator.specs.Lazy.{with_value_at, without_slot, station_changes}
use Rattle.accumulator.specs.OwnCells.{value_added, values_added, OwnCells}
use Rattle.accumulator.proofs.OneSlot.{kept_parts, added_within}
use Rattle.accumulator.proofs.CellSlots.{length-wiped, drop_wiped, get_or-wiped, wiped_other}

module _ {V : Type 0} (J : Ghosts V) (limit : ℕ) (rest : List V) where
  -- each station below the limit has added H for each pass
  pub record Holds (m : Meaning V) (xs : List V) (H : ℕ → ℕ → List V) : Type 0 where
    pub same : m.limit ≡ limit
    pub room : KEPT * limit ≤ length xs
    pub own : (s p : ℕ) → s < limit → m.first ≤ p → p < m.first + KEPT → get_or xs (KEPT * s + slot_of p) J.neutral ≡ joining_of J (H s p)
    pub later : (s p : ℕ) → m.first + KEPT ≤ p → H s p ≡ []
    pub further : drop (KEPT * limit) xs ≡ rest

  -- just made
  pub none_added : (xs further : List V) → xs ≡ replicate (KEPT * limit) J.neutral ++ further → drop (KEPT * limit) xs ≡ rest → Holds (new_meaning J limit) xs (λ s p. [])
  none_added xs further clear is =
      let n : ℕ = KEPT * limit in
      let long : length (replicate n J.neutral) ≡ n = length-replicate n J.neutral in
      let all : length xs ≡ length (replicate n J.neutral ++ further) = ap length clear in
      record {
        same = refl;
        room = omega (arith, all, length-append (replicate n J.neutral) further);
        own = λ s p below low high.
            let i : ℕ = KEPT * s + slot_of p in
            ap (λ ys. get_or ys i J.neutral) clear ∙ get_or_append_left (replicate n J.neutral) further J.neutral i (omega arith) ∙ get_or-replicate n i J.neutral J.neutral (omega arith);
        later = λ s p past. refl;
        further = is;
      }

  module _ (m : Meaning V) (xs : List V) (H : ℕ → ℕ → List V) (h : Holds m xs H) where
    pub cell_held : (s p : ℕ) → s < limit → keeps m.first p ≡ true → slice_get xs (KEPT * s + slot_of p) ≡ Some (joining_of J (H s p))
    cell_held s p below within =
        let q = kept_parts m.first p within in
        slice_get-get_or xs (KEPT * s + slot_of p) J.neutral (omega (arith, h.room)) ∙ ap (λ (v : V). Some v) (h.own s p below q.0 q.1)

    -- a call that adds nothing
    pub nothing : Holds m xs (λ s p. H s p ++ [])
    nothing = record {
      same = h.same;
      room = h.room;
      own = λ s p below low high. h.own s p below low high ∙ ap (joining_of J) (sym (append-nil (H s p)));
      later = λ s p past. append-nil (H s p) ∙ h.later s p past;
      further = h.further;
    }

    module _ (station pass : ℕ) (x : V) (below : station < limit) (low : m.first ≤ pass) (high : pass < m.first + KEPT) where
      abbrev pub more : ℕ → ℕ → List V
      more s p = cond (eqb station s && eqb pass p) (x ∷ []) []

      elsewhere : (s p : ℕ) → (eqb station s && eqb pass p) ≡ false → H s p ++ more s p ≡ H s p
      elsewhere s p e = ap (λ (b : Bool). H s p ++ cond b (x ∷ []) []) e ∙ append-nil (H s p)

      here : (s p : ℕ) → station ≡ s → pass ≡ p → H s p ++ more s p ≡ H s p ++ x ∷ []
      here s p e f = ap (λ (b : Bool). H s p ++ cond b (x ∷ []) []) (and_from (eqb station s) (eqb pass p) (eq-eqb station s e) (eq-eqb pass p f))

      pub one_added : Holds (with_value J m pass x) (with_value_at J (KEPT * station + slot_of pass) x xs) (λ s p. H s p ++ more s p)
      one_added =
          let i : ℕ = KEPT * station + slot_of pass in
          let y : V = J.joined (get_or xs i J.neutral) x in record {
            same = h.same;
            room = omega (arith, h.room, length-set xs i y);
            own = λ s p s_below p_low p_high.
                let other = λ (ne : KEPT * s + slot_of p ≢ i) (e : (eqb station s && eqb pass p) ≡ false).
                get_or-set_other xs i (KEPT * s + slot_of p) y J.neutral ne ∙ h.own s p s_below p_low p_high ∙ ap (joining_of J) (sym (elsewhere s p e)) in
                ⊎_elim
                (λ (e : station ≡ s).
                ⊎_elim
                (λ (f : pass ≡ p).
                (λ k. get_or (set xs i y) (KEPT * sym e k + slot_of (sym f k)) J.neutral) ∙ get_or-set_same xs i y J.neutral (omega (arith, h.room))
                ∙ ap (λ v. J.joined v x) ((λ k. get_or xs (KEPT * e k + slot_of (f k)) J.neutral) ∙ h.own s p s_below p_low p_high)
                ∙ sym (ap (joining_of J) (here s p e f) ∙ fold-append J.joined J.neutral (H s p) (x ∷ [])))
                (λ (ne : pass ≢ p). other (λ q. omega arith) (and_right (eqb station s) (eqb pass p) (ne_eqb pass p ne)))
                (cases_eq pass p))
                (λ (ne : station ≢ s). other (λ q. omega arith) (and_left (eqb station s) (eqb pass p) (ne_eqb station s ne)))
                (cases_eq station s);
            later = λ s p past. elsewhere s p (and_right (eqb station s) (eqb pass p) (ne_eqb pass p (λ e. omega arith))) ∙ h.later s p past;
            further = drop-set-lt (KEPT * limit) xs i y (omega arith) ∙ h.further;
          }

    pub pass_dropped : Holds (without_first J m) (without_slot J (slot_of m.first) m.limit xs) (λ s p. H s p ++ [])
    pass_dropped =
        let slot : ℕ = slot_of m.first in
        let within : slot < KEPT = omega arith in
        record {
          same = h.same;
          room = omega (arith, h.room, length-wiped J xs slot within m.limit);
          own = λ s p below low high.
              ⊎_elim
              (λ (lt : p < m.first + KEPT). wiped_other J xs slot within m.limit s (slot_of p) (omega arith) (λ e. omega arith) ∙ h.own s p below (omega arith) lt ∙ ap (joining_of J) (sym (append-nil (H s p))))
              (λ (ge : m.first + KEPT ≤ p).
              let back : slot_of p ≡ slot = omega arith in
              ap (λ r. get_or (without_slot J slot m.limit xs) (KEPT * s + r) J.neutral) back
              ∙ get_or-wiped J xs slot within m.limit s (omega (arith, h.same)) (omega (arith, h.same, h.room))
              ∙ sym (ap (joining_of J) (append-nil (H s p) ∙ h.later s p ge)))
              (cases_lt p (m.first + KEPT));
          later = λ s p past. append-nil (H s p) ∙ h.later s p (omega arith);
          further = drop_wiped J xs slot within limit m.limit (omega (arith, h.same)) ∙ h.further;
        }

    add_held : (station pass : ℕ) (x : V) (v : Verdict) → v ≡ verdict (add_rules m.limit m.first station pass) → Holds (meaning_by v (with_value J m pass x) m) (unless_refused (answer_by {X = Option V} v None) (with_value_at J (KEPT * station + slot_of pass) x) xs) (λ s p. H s p ++ value_added s p (Add station pass x) (answer_by v None))
    add_held station pass x (Ok _) e =
        let w = added_within m.limit m.first station pass e in
        one_added station pass x (omega (arith, h.same, w.0)) w.1 w.2
    add_held station pass x (Err refusal) e = nothing

    move_held : (v : Verdict) → Holds (meaning_by v (without_first J m) m) (unless_refused (answer_by {X = Option V} v None) (without_slot J (slot_of m.first) m.limit) xs) (λ s p. H s p ++ [])
    move_held (Ok _) = pass_dropped
    move_held (Err refusal) = nothing

  unchanged : {X E : Type 0} (r : Result X E) (xs : List V) → unless_refused r (λ ys. ys) xs ≡ xs
  unchanged (Ok _) xs = refl
  unchanged (Err _) xs = refl

  -- one call more
  call_held : (m : Meaning V) (xs : List V) (H : ℕ → ℕ → List V) (c : Call V) → Holds m xs H → Holds (meaning_step J m c).1 (unless_refused (meaning_step J m c).0 (cell_change (station_changes J) m c) xs) (λ s p. H s p ++ value_added s p c (meaning_step J m c).0)
  call_held m xs H (Add station pass x) h = add_held m xs H h station pass x (verdict (add_rules m.limit m.first station pass)) refl
  call_held m xs H (Total pass) h = subst (λ ys. Holds m ys (λ s p. H s p ++ [])) (sym (unchanged (meaning_step J m (Total pass)).0 xs)) (nothing m xs H h)
  call_held m xs H MoveOn h = move_held m xs H h (verdict (move_on_rules m.first))

  calls_held : (a : Account V) (H : ℕ → ℕ → List V) (cs : List (Call V)) → Holds a.meaning a.cells.values H →
      let end = trace (account_step J (station_changes J)) a cs in
      Holds end.1.meaning end.1.cells.values (λ s p. H s p ++ values_added s p (zip cs end.0))
  calls_held a H [] h = nothing a.meaning a.cells.values H h
  calls_held a H (c ∷ cs) h =
      let told : CallAnswer V = (account_step J (station_changes J) a c).0 in
      let next : Account V = (account_step J (station_changes J) a c).1 in
      let end = trace (account_step J (station_changes J)) next cs in
      subst (λ (G : ℕ → ℕ → List V). Holds end.1.meaning end.1.cells.values G)
      (λ i s p. append_assoc (H s p) (value_added s p c told) (values_added s p (zip cs end.0)) i)
      (calls_held next (λ s p. H s p ++ value_added s p c told) cs (call_held a.meaning a.cells.values H c h))

-- from a making on
pub own_cells : {V : Type 0} (J : Ghosts V) (limit : ℕ) (l : Lent V) (rest : List V) (calls : List (Call V)) → l.values ≡ replicate (KEPT * limit) J.neutral ++ rest → OwnCells J (station_changes J) (new_account J limit l) calls
own_cells J limit l rest calls clear =
    let a : Account _ = new_account J limit l in
    let further : List _ = drop (KEPT * limit) l.values in
    let end = trace (account_step J (station_changes J)) a calls in
    let held = calls_held J limit further a (λ s p. []) calls (none_added J limit further l.values rest clear refl) in
    record {
      own = λ s p below within. cell_held J limit further end.1.meaning end.1.cells.values (λ s p. values_added s p (zip calls end.0)) held s p below within;
      further = held.further;
    }
