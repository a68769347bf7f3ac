-- A list that calls filled with one value.
use Rattle.std.proofs.Common.{◌≡◌, ℕ, zero, suc, List, [], ◌∷◌, length, replicate, refl, ap₂, arith}
use Rattle.std.specs.List.{FoldsTo}

pub filled : {P V : Type 0} (R : P → V → P → Type 0) (value : V) → ((p : P) (x : V) (q : P) → R p x q → x ≡ value) → (n : ℕ) (xs : List V) (p q : P) → FoldsTo R p xs q → length xs ≡ n → xs ≡ replicate n value
filled R value each zero [] p q ran long = refl
filled R value each zero (x ∷ xs) p q ran long = absurd (omega arith)
filled R value each (suc n) [] p q ran long = absurd (omega arith)
filled R value each (suc n) (x ∷ xs) p q ran long =
    ap₂ (λ y ys. y ∷ ys) (each p x ran.0 ran.1) (filled R value each n xs ran.0 q ran.2 (omega arith))
