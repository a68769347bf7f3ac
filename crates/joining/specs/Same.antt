-- Values of a kind are the same when their fields are: a ghost field has one proof at most.
use Rattle.std.specs.Prelude.{◌≡◌, ◌^◌, ◌<◌, ℤ, pos, negsuc}
use Rattle.std.proofs.Common.{ap, arith}
use mathlib.Core.HLevel.{is_prop→PathP}
use Rattle.std.proofs.Math.Bridge.{le_prop}
use Rattle.joining.specs.Deviation.{InRange, nearest}
use Rattle.joining.specs.declared.kinds.Length.{Length}
use Rattle.joining.specs.declared.kinds.Extremes.{Extremes}
use Rattle.joining.specs.declared.kinds.CoilRecord.{CoilRecord}

pub same_length : (x y : Length) → x.run ≡ y.run → x ≡ y
same_length x y e = λ i. record { run = e i; fits = is_prop→PathP (λ k. e k < 2 ^ 64) (λ k. le_prop) x.fits y.fits i }

pub same_extremes : (x y : Extremes) → x.thinnest ≡ y.thinnest → x.thickest ≡ y.thickest → x ≡ y
same_extremes x y e f = λ i. record {
  thinnest = e i;
  thickest = f i;
  thinnest_fits = is_prop→PathP (λ k. InRange (e k)) (λ k. le_prop) x.thinnest_fits y.thinnest_fits i;
  thickest_fits = is_prop→PathP (λ k. InRange (f k)) (λ k. le_prop) x.thickest_fits y.thickest_fits i;
}

pub nearest_itself : (d : ℤ) → InRange d → nearest d ≡ d
nearest_itself (pos n) h = ap pos (omega arith)
nearest_itself (negsuc n) h = ap negsuc (omega arith)

pub same_record : (x y : CoilRecord) → x.length.run ≡ y.length.run → x.extremes.thinnest ≡ y.extremes.thinnest → x.extremes.thickest ≡ y.extremes.thickest → x.marks.bits ≡ y.marks.bits → x ≡ y
same_record x y run thin thick bits = λ i. record {
  length = same_length x.length y.length run i;
  extremes = same_extremes x.extremes y.extremes thin thick i;
  marks = record { bits = bits i; rule = record {} };
}
