use Rattle.std.proofs.Common.{◌≡◌, ℕ, ◌+◌, ◌<◌, ◌≤◌, max, List, length, get_or, fold, sym, ap, ◌∙◌, arith}
use Rattle.joining.specs.Every.{cells_in_steps}
use Rattle.joining.proofs.Steps.{every_more, every_past}
use Rattle.joining.proofs.fold.join_every.Goals as goal

module _ {V : Type 0} (join : V → V → V) (xs : List V) (step : ℕ) where
  -- one turn: the cell at i goes from what is left to the total
  turn : {i stride : ℕ} {total x next : V} → stride ≡ max step 1 → i < length xs → x ≡ get_or xs i x → next ≡ join total x → fold join next (cells_in_steps (i + stride) step xs) ≡ fold join total (cells_in_steps i step xs)
  turn {i} {stride} {total} {x} e h at is =
      ap (λ v. fold join v (cells_in_steps (i + stride) step xs)) (is ∙ ap (join total) at) ∙ ap (fold join total) (sym (every_more xs i step stride x e h))

  -- where nothing is left, the total is the whole
  ended : {i : ℕ} (total : V) → length xs ≤ i → total ≡ fold join total (cells_in_steps i step xs)
  ended {i} total h = ap (fold join total) (sym (every_past xs i step h))

pub loop-i-preserved : goal.loop-i-preserved
loop-i-preserved g c =
    let here = turn g.V.Joining.joined c.args.cells.now c.args.step c.loop-i.invariant.1 c.loop-i-test.true c.index-cells-i.is c.join-total.ensures in
    (here ∙ c.loop-i.invariant.0, c.loop-i.invariant.1)

pub returns : goal.returns
returns g c = ended g.V.Joining.joined c.args.cells.now c.args.step c.loop-i.total c.loop-i-test.false ∙ c.loop-i.invariant.0

-- the way out after the last turn, where one more step would pass the end
pub returns-2 : goal.returns-2
returns-2 g c =
    let past : length c.args.cells.now ≤ c.loop-i.i + c.max-i-step.result = omega arith in
    ended g.V.Joining.joined c.args.cells.now c.args.step c.join-total.result past
    ∙ turn g.V.Joining.joined c.args.cells.now c.args.step c.loop-i.invariant.1 c.loop-i-test.true c.index-cells-i.is c.join-total.ensures
    ∙ c.loop-i.invariant.0
