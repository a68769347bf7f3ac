-- What holds of each total of a history holds of each total among its answers.
use Rattle.std.proofs.Common.{◌≡◌, ℕ, List, [], ◌∷◌, zip, Ok, Err, Result, sym, ◌∙◌, subst, MatchResult, IfOk}
use Rattle.std.specs.List.{All}
use Rattle.std.proofs.lemmas.List.Elements.{All-nil, All-cons, All-contains}
use Rattle.refusal.specs.declared.Refusal.{Refusal}
use Rattle.refusal.specs.Trace.{trace}
use Rattle.calls.specs.declared.actions.Answer.{Answer}
use Rattle.calls.specs.declared.actions.Answer.TheVariants.{Total}
use Rattle.calls.specs.declared.actions.Call.{Call}
use Rattle.phaser.specs.Histories.{Event, accepted_calls, OfTotal, EachTotal}
use Rattle.calling.specs.Totals.{OneTotalForEachPass}

module _ {V : Type 0} where
  -- P holds of the total that is answered, if one is
  abbrev pub OfAnswer : (ℕ → V → Type 0) → Result (Answer V) Refusal → Type 0
  OfAnswer P (Ok a) = OfTotal P a
  OfAnswer P (Err refusal) = Unit {0}

  one_answer : (P : ℕ → V → Type 0) (c : Call V) (r : Result (Answer V) Refusal) (h : List (Event V)) (answers : List (Result (Answer V) Refusal)) →
      (EachTotal P (accepted_calls h) → All (OfAnswer P) answers) → EachTotal P (accepted_calls ((c, r) ∷ h)) → All (OfAnswer P) (r ∷ answers)
  one_answer P c (Ok a) h answers rest t = All-cons (OfAnswer P) (Ok a) answers t.0 (rest t.1)
  one_answer P c (Err refusal) h answers rest t = All-cons (OfAnswer P) (Err refusal) answers tt (rest t)

  each_answer : {S : Type 0} (P : ℕ → V → Type 0) (step : S → Call V → Result (Answer V) Refusal × S) (s : S) (calls : List (Call V)) →
      EachTotal P (accepted_calls (zip calls (trace step s calls).0)) → All (OfAnswer P) (trace step s calls).0
  each_answer P step s [] t = All-nil (OfAnswer P)
  each_answer P step s (c ∷ cs) t =
      one_answer P c (step s c).0 (zip cs (trace step (step s c).1 cs).0) (trace step (step s c).1 cs).0 (each_answer P step (step s c).1 cs) t

  -- where each total that is handed out for a pass is the whole of it, two of them are the same
  pub one_total : {S : Type 0} (step : S → Call V → Result (Answer V) Refusal × S) (s : S) (calls : List (Call V)) (answers : List (Result (Answer V) Refusal)) (whole : ℕ → V) →
      answers ≡ (trace step s calls).0 → EachTotal (λ pass total. total ≡ whole pass) (accepted_calls (zip calls answers)) → OneTotalForEachPass answers
  one_total step s calls answers whole played complete pass x y first second =
      let P : ℕ → V → Type 0 = λ n total. total ≡ whole n in
      let every : All (OfAnswer P) answers = subst (λ xs. EachTotal P (accepted_calls (zip calls xs)) → All (OfAnswer P) xs) (sym played) (each_answer P step s calls) complete in
      All-contains (OfAnswer P) answers (Ok (Total pass x)) every first ∙ sym (All-contains (OfAnswer P) answers (Ok (Total pass y)) every second)

-- what holds of the value, from what holds in both cases, and from what holds of it besides
pub at_ok : {X Y : Type 0} (r : Result X Y) (P R : X → Type 0) (E : Y → Type 0) → MatchResult r P E → ((x : X) → P x → R x) → IfOk r R
at_ok (Ok x) P R E p f = f x p
at_ok (Err y) P R E p f = tt

pub both_at_ok : {X Y : Type 0} (r : Result X Y) (P Q R : X → Type 0) (E : Y → Type 0) → MatchResult r P E → IfOk r Q → ((x : X) → P x → Q x → R x) → IfOk r R
both_at_ok (Ok x) P Q R E p q f = f x p q
both_at_ok (Err y) P Q R E p q f = tt
