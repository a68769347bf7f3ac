-- The tests of a numeral, and what parsing says of it.
use Rattle.std.proofs.Common.{◌≡◌, ℕ, ℤ, pos, negsuc, ◌^◌, ◌<◌, ◌&&◌, Bool, true, false, cond, nat_lt, List, [], ◌∷◌, length, Ok, Err, Result, refl, ap, ◌∙◌, arith}
use mir.Syntax.{w16}
use mir.Val.{SFits}
use Rattle.std.specs.List.{list_all}
use Rattle.std.specs.Char.{digit_value}
use Rattle.std.specs.Result.{OkIff, MatchResult}
use Rattle.std.specs.Str.Parse.{AllDigits, IsNumeral, ParsesUnsigned, ParsesSigned, digits_value, signed_digits_value, without_leading_plus, without_leading_sign}
use Rattle.std.proofs.lemmas.Bool.{and_parts, false≢true}
use Rattle.std.proofs.lemmas.Bool.Decides.{nat_tests}
use Rattle.steptext.specs.Words.{numeral, word_number, reach, word_deviation}
use Rattle.steptext.specs.declared.expectations.Expected.{Expected}
use Rattle.steptext.specs.declared.expectations.Expected.TheVariants.{Deviation}

abbrev is_digit : ℕ → Bool
is_digit c = nat_lt (digit_value c) 10

all_digits : (ds : List ℕ) → list_all is_digit ds ≡ true → AllDigits 10 ds
all_digits [] h = tt
all_digits (c ∷ cs) h =
    let p = and_parts (is_digit c) (list_all is_digit cs) h in
    let first = p.0 in
    (grind (arith, nat_tests), all_digits cs p.1)

digits_pass : (ds : List ℕ) → AllDigits 10 ds → list_all is_digit ds ≡ true
digits_pass [] h = refl
digits_pass (c ∷ cs) h =
    let small = h.0 in
    let first : is_digit c ≡ true = grind (arith, nat_tests) in
    ap (λ b. b && list_all is_digit cs) first ∙ digits_pass cs h.1

abbrev fits : ℕ → List ℕ → Bool
fits bits ds = numeral ds && nat_lt (digits_value 10 ds) (2 ^ bits)

fits_if : (bits : ℕ) (ds : List ℕ) → IsNumeral 10 ds × (digits_value 10 ds < 2 ^ bits) → fits bits ds ≡ true
fits_if bits ds h =
    let some = h.0.0 in
    let small = h.1 in
    let a : nat_lt 0 (length ds) ≡ true = grind (arith, nat_tests) in
    let b = digits_pass ds h.0.1 in
    let c : nat_lt (digits_value 10 ds) (2 ^ bits) ≡ true = grind (arith, nat_tests) in
    (λ i. (a i && b i) && c i)

if_fits : (bits : ℕ) (ds : List ℕ) → fits bits ds ≡ true → IsNumeral 10 ds × (digits_value 10 ds < 2 ^ bits)
if_fits bits ds h =
    let p = and_parts (numeral ds) (nat_lt (digits_value 10 ds) (2 ^ bits)) h in
    let q = and_parts (nat_lt 0 (length ds)) (list_all is_digit ds) p.0 in
    let some = q.0 in
    let small = p.1 in
    ((grind (arith, nat_tests), all_digits ds q.1), grind (arith, nat_tests))

chosen : {E P X : Type 0} (r : Result X E) (s : Result X Expected) (v : X) (e : Expected) (b : Bool) → OkIff r P v → (P → b ≡ true) → (b ≡ true → P) → MatchResult r (λ x. s ≡ Ok x) (λ _. s ≡ Err e) → s ≡ cond b (Ok v) (Err e)
chosen (Ok x) s v e true h to from m = m ∙ ap Ok h.1
chosen (Ok x) s v e false h to from m = absurd (false≢true (to h.0))
chosen (Err d) s v e true h to from m = absurd (h (from refl))
chosen (Err d) s v e false h to from m = m

-- a parsed number, with the error that stands for all others
pub number_is : {E : Type 0} (bits : ℕ) (w : List ℕ) (r : Result ℕ E) (s : Result ℕ Expected) (e : Expected) → ParsesUnsigned bits 10 w r → MatchResult r (λ x. s ≡ Ok x) (λ _. s ≡ Err e) → s ≡ word_number bits e w
number_is bits w r s e h m = chosen r s (digits_value 10 (without_leading_plus w)) e (fits bits (without_leading_plus w)) h (fits_if bits (without_leading_plus w)) (if_fits bits (without_leading_plus w)) m

reach_if : (z : ℤ) → SFits w16 z → reach z < 2 ^ 15
reach_if (pos n) h = h.sfits
reach_if (negsuc n) h = h.sfits

if_reach : (z : ℤ) → reach z < 2 ^ 15 → SFits w16 z
if_reach (pos n) h = record { sfits = h }
if_reach (negsuc n) h = record { sfits = h }

abbrev fits_signed : List ℕ → Bool
fits_signed w = numeral (without_leading_sign w) && nat_lt (reach (signed_digits_value 10 w)) (2 ^ 15)

signed_if : (w : List ℕ) → IsNumeral 10 (without_leading_sign w) × SFits w16 (signed_digits_value 10 w) → fits_signed w ≡ true
signed_if w h =
    let some = h.0.0 in
    let small = reach_if (signed_digits_value 10 w) h.1 in
    let a : nat_lt 0 (length (without_leading_sign w)) ≡ true = grind (arith, nat_tests) in
    let b = digits_pass (without_leading_sign w) h.0.1 in
    let c : nat_lt (reach (signed_digits_value 10 w)) (2 ^ 15) ≡ true = grind (arith, nat_tests) in
    (λ i. (a i && b i) && c i)

if_signed : (w : List ℕ) → fits_signed w ≡ true → IsNumeral 10 (without_leading_sign w) × SFits w16 (signed_digits_value 10 w)
if_signed w h =
    let p = and_parts (numeral (without_leading_sign w)) (nat_lt (reach (signed_digits_value 10 w)) (2 ^ 15)) h in
    let q = and_parts (nat_lt 0 (length (without_leading_sign w))) (list_all is_digit (without_leading_sign w)) p.0 in
    let some = q.0 in
    let small = p.1 in
    ((grind (arith, nat_tests), all_digits (without_leading_sign w) q.1), if_reach (signed_digits_value 10 w) (grind (arith, nat_tests)))

pub deviation_is : {E : Type 0} (w : List ℕ) (r : Result ℤ E) (s : Result ℤ Expected) → ParsesSigned w16 10 w r → MatchResult r (λ x. s ≡ Ok x) (λ _. s ≡ Err Deviation) → s ≡ word_deviation w
deviation_is w r s h m = chosen r s (signed_digits_value 10 w) Deviation (fits_signed w) h (signed_if w) (if_signed w) m
