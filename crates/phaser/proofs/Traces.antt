-- Lists of things with their stations: where each station's are the same, so is any fold in which those of different stations commute.
use Rattle.std.proofs.Common.{◌≡◌, ℕ, Bool, cond, eqb, ◌≢◌, List, [], ◌∷◌, ◌++◌, fold, sym, refl, ap, ◌∙◌, subst, ⊎_elim, arith}
use Rattle.std.proofs.lemmas.Bool.{cases_eq, eq-eqb, ne_eqb}
use Rattle.phaser.specs.Accounts.{Commuting}

module _ {X : Type 0} where
  -- station k's of the list, in their order
  abbrev pub of_station : ℕ → List (ℕ × X) → List X
  of_station k [] = []
  of_station k (e ∷ es) = cond (eqb e.0 k) (e.1 ∷ []) [] ++ of_station k es

  pub of_own : (i k : ℕ) (x : X) (es : List (ℕ × X)) → i ≡ k → of_station k ((i, x) ∷ es) ≡ x ∷ of_station k es
  of_own i k x es e = ap (λ (b : Bool). cond b (x ∷ []) [] ++ of_station k es) (eq-eqb i k e)

  pub of_other : (i k : ℕ) (x : X) (es : List (ℕ × X)) → i ≢ k → of_station k ((i, x) ∷ es) ≡ of_station k es
  of_other i k x es ne = ap (λ (b : Bool). cond b (x ∷ []) [] ++ of_station k es) (ne_eqb i k ne)

  module _ {A : Type 0} (add : A → ℕ × X → A) (commuting : Commuting add) where
    -- station i's next, taken out of the list
    record Pulled (i : ℕ) (x : X) (xs : List X) (es : List (ℕ × X)) : Type 0 where
      pub rest : List (ℕ × X)
      pub first : (a : A) → fold add a es ≡ fold add (add a (i, x)) rest
      pub own_rest : of_station i rest ≡ xs
      pub others : (k : ℕ) → k ≢ i → of_station k rest ≡ of_station k es

    pull : (i : ℕ) (x : X) (xs : List X) (es : List (ℕ × X)) → of_station i es ≡ x ∷ xs → Pulled i x xs es
    pull i x xs [] e = let z : ◌≡◌ {A = ℕ} 0 1 = cc in absurd (omega arith)
    pull i x xs ((j, y) ∷ es) e =
        ⊎_elim
        (λ (q : j ≡ i).
        let heads : y ∷ of_station i es ≡ x ∷ xs = sym (of_own j i y es q) ∙ e in
        let same : y ≡ x = cc in
        let tails : of_station i es ≡ xs = cc in
        record {
          rest = es;
          first = λ a. λ n. fold add (add a (q n, same n)) es;
          own_rest = tails;
          others = λ k ne. sym (of_other j k y es (λ p. ne (sym p ∙ q)));
        })
        (λ (ne : j ≢ i).
        let more = pull i x xs es (sym (of_other j i y es ne) ∙ e) in
        record {
          rest = (j, y) ∷ more.rest;
          first = λ a. more.first (add a (j, y)) ∙ ap (λ (b : A). fold add b more.rest) (commuting a j i y x ne);
          own_rest = of_other j i y more.rest ne ∙ more.own_rest;
          others = λ k nk. ap (λ (zs : List X). cond (eqb j k) (y ∷ []) [] ++ zs) (more.others k nk);
        })
        (cases_eq j i)

    pub same_fold : (g h : List (ℕ × X)) → ((k : ℕ) → of_station k g ≡ of_station k h) → (a : A) → fold add a g ≡ fold add a h
    same_fold [] [] e a = refl
    same_fold [] ((j, y) ∷ h) e a =
        let q : [] ≡ y ∷ of_station j h = e j ∙ of_own j j y h refl in
        let z : ◌≡◌ {A = ℕ} 0 1 = cc in absurd (omega arith)
    same_fold ((i, x) ∷ g) h e a =
        let p = pull i x (of_station i g) h (sym (e i) ∙ of_own i i x g refl) in
        let left : (k : ℕ) → of_station k g ≡ of_station k p.rest
        = λ k. ⊎_elim
        (λ (q : k ≡ i). subst (λ (n : ℕ). of_station n g ≡ of_station n p.rest) (sym q) (sym p.own_rest))
        (λ (ne : k ≢ i). sym (of_other i k x g (λ q. ne (sym q))) ∙ e k ∙ sym (p.others k ne))
        (cases_eq k i) in
        same_fold g p.rest left (add a (i, x)) ∙ sym (p.first a)
