-- What each station sent for a pass decides its total, and any account in which sends of different stations commute.
use Rattle.std.proofs.Common.{◌≡◌, ℕ, ◌≢◌, List, [], ◌∷◌, ◌++◌, map, fold, sym, refl, ap, ◌∙◌, ⊎_elim}
use Rattle.std.proofs.lemmas.Bool.{cases_eq}
use Rattle.joining.specs.declared.Joining.{Ghosts}
use Rattle.joining.specs.Laws.{CommutativeMonoid}
use Rattle.joining.specs.Lists.{joining_of}
use Rattle.phaser.specs.Histories.{AcceptedCall, answered_actions, values_for, sends_for, value_for}
use Rattle.phaser.specs.Accounts.{Commuting}
use Rattle.phaser.proofs.Complete.{folded_append}
use Rattle.phaser.proofs.Replay.{done_own, done_other}
use Rattle.phaser.proofs.Traces.{of_station, of_own, of_other, same_fold}
use Rattle.phaser.proofs.Entries.{Act}

abbrev pub flat : {X : Type 0} → List (List X) → List X
flat [] = []
flat (xs ∷ xss) = xs ++ flat xss

-- the values that a station's accepted calls brought to pass n
abbrev pub values : {V : Type 0} → ℕ → List (Act V) → List V
values n ds = flat (map (λ d. value_for n d.0 d.1) ds)

module _ {V : Type 0} where
  abbrev from : ℕ → List V → List (ℕ × V)
  from j ys = map (λ y. (j, y)) ys

  of_sender : (k j : ℕ) (ys : List V) (es : List (ℕ × V)) → j ≡ k → of_station k (from j ys ++ es) ≡ ys ++ of_station k es
  of_sender k j [] es e = refl
  of_sender k j (y ∷ ys) es e = of_own j k y (from j ys ++ es) e ∙ ap (λ (zs : List V). y ∷ zs) (of_sender k j ys es e)

  of_nobody : (k j : ℕ) (ys : List V) (es : List (ℕ × V)) → j ≢ k → of_station k (from j ys ++ es) ≡ of_station k es
  of_nobody k j [] es ne = refl
  of_nobody k j (y ∷ ys) es ne = of_other j k y (from j ys ++ es) ne ∙ of_nobody k j ys es ne

  values_of : (n k : ℕ) (h : List (AcceptedCall V)) → of_station k (sends_for n h) ≡ values n (answered_actions k h)
  values_of n k [] = refl
  values_of n k ((c, a) ∷ h) =
      let more = values_of n k h in
      ⊎_elim
      (λ (e : c.caller ≡ k). of_sender k c.caller (value_for n c.action a) (sends_for n h) e ∙ ap (λ (ys : List V). value_for n c.action a ++ ys) more ∙ ap (values n) (sym (done_own k c a h (sym e))))
      (λ (ne : c.caller ≢ k). of_nobody k c.caller (value_for n c.action a) (sends_for n h) ne ∙ more ∙ ap (values n) (sym (done_other k c a h (λ e. ne (sym e)))))
      (cases_eq c.caller k)

  -- each station's shares of pass n are the same in g and h
  abbrev pub SameShares : ℕ → List (AcceptedCall V) → List (AcceptedCall V) → Type 0
  SameShares n g h = (k : ℕ) → values n (answered_actions k g) ≡ values n (answered_actions k h)

  pub same_account : {A : Type 0} (add : A → ℕ × V → A) → Commuting add → (n : ℕ) (g h : List (AcceptedCall V)) → SameShares n g h → (a : A) → fold add a (sends_for n g) ≡ fold add a (sends_for n h)
  same_account add swap n g h same a = same_fold add swap (sends_for n g) (sends_for n h) (λ k. values_of n k g ∙ same k ∙ sym (values_of n k h)) a

  module _ (J : Ghosts V) where
    -- a joining as such an account: it does not look at the station
    abbrev joined_in : V → ℕ × V → V
    joined_in total send = J.joined total send.1

    joined_values : (j : ℕ) (ys : List V) (es : List (ℕ × V)) (a : V) → fold joined_in a (from j ys ++ es) ≡ fold joined_in (fold J.joined a ys) es
    joined_values j [] es a = refl
    joined_values j (y ∷ ys) es a = joined_values j ys es (J.joined a y)

    joined_sends : (n : ℕ) (h : List (AcceptedCall V)) (a : V) → fold joined_in a (sends_for n h) ≡ fold J.joined a (values_for n h)
    joined_sends n [] a = refl
    joined_sends n ((c, b) ∷ h) a =
        let ys : List V = value_for n c.action b in
        joined_values c.caller ys (sends_for n h) a ∙ joined_sends n h (fold J.joined a ys) ∙ sym (folded_append J.joined a ys (values_for n h))

    pub same_joining : CommutativeMonoid J.neutral J.joined → (n : ℕ) (g h : List (AcceptedCall V)) → SameShares n g h → joining_of J (values_for n g) ≡ joining_of J (values_for n h)
    same_joining laws n g h same =
        let swap : Commuting joined_in = λ a i k x y ne. laws.associative a x y ∙ ap (J.joined a) (laws.commutative x y) ∙ sym (laws.associative a y x) in
        sym (joined_sends n g J.neutral) ∙ same_account joined_in swap n g h same J.neutral ∙ joined_sends n h J.neutral
