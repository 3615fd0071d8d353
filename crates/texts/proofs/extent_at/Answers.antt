-- `texts::extent_at` meets its contract, by the laws of Measuring.antt.
-- Assumes nothing.
use native.Mathlib.Omega.{arith}
use mathlib.Core.Path.{refl}
use Rattle.texts.proofs.Measuring.{leaf_extent, place_bound, first_inside, second_inside, app_extent, abs_extent}
use Rattle.texts.proofs.extent_at.Goals as goal

pub offset_bounds-letters-i : goal.offset_bounds-letters-i
offset_bounds-letters-i c = omega (arith, place_bound c.requires)

pub bounds-letters-i : goal.bounds-letters-i
bounds-letters-i c = omega (arith, place_bound c.requires)

pub returns-then-symbol-lt-APPLICATOR : goal.returns-then-symbol-lt-APPLICATOR
returns-then-symbol-lt-APPLICATOR c = leaf_extent c.symbol_of-symbol.ensures.0 c.if-symbol-lt-APPLICATOR.true

pub bounds-sizes-i : goal.bounds-sizes-i
bounds-sizes-i c = (first_inside c.requires c.symbol_of-symbol.ensures.0 c.if-symbol-lt-APPLICATOR.false).sized

pub bounds-scopes-i : goal.bounds-scopes-i
bounds-scopes-i c = (first_inside c.requires c.symbol_of-symbol.ensures.0 c.if-symbol-lt-APPLICATOR.false).scoped

pub bounds-sizes-m : goal.bounds-sizes-m
bounds-sizes-m c = (second_inside c.requires c.symbol_of-symbol.ensures.0 c.if-symbol-lt-APPLICATOR.false c.from-a.ensures).sized

pub bounds-scopes-m : goal.bounds-scopes-m
bounds-scopes-m c = (second_inside c.requires c.symbol_of-symbol.ensures.0 c.if-symbol-lt-APPLICATOR.false c.from-a.ensures).scoped

pub returns-then-symbol-eq-APPLICATOR : goal.returns-then-symbol-eq-APPLICATOR
returns-then-symbol-eq-APPLICATOR c = app_extent c.from-a.ensures refl c.from-x.ensures c.from-c.ensures c.from-y.ensures c.symbol_of-symbol.ensures.0 c.if-symbol-eq-APPLICATOR.true refl c.max.ensures

pub returns : goal.returns
returns c = abs_extent c.from-a.ensures refl c.from-x.ensures c.from-c.ensures c.from-y.ensures c.symbol_of-symbol.ensures.0 c.if-symbol-lt-APPLICATOR.false c.if-symbol-eq-APPLICATOR.false refl c.max-2.ensures
