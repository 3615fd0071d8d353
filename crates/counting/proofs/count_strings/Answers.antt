-- `counting::count_strings` meets its contract.
-- Assumes nothing.
use native.Mathlib.Omega.{arith}
use Prim.Native.Nat.{◌≤◌}
use native.Mathlib.Nat.{pow-le-pow_right}
use Rattle.counting.proofs.Promised.{unbound_counted, malformed_counted, counted, not_counted}
use Rattle.counting.proofs.count_strings.Goals as goal

pub returns-then-length-gt-LONGEST_COUNTED : goal.returns-then-length-gt-LONGEST_COUNTED
returns-then-length-gt-LONGEST_COUNTED c = not_counted c.args.length (omega arith)

pub pow-strings-requires : goal.pow-strings-requires
pow-strings-requires c = let l : c.args.length ≤ 7 = omega arith in omega (arith, pow-le-pow_right {n = 256} (omega arith) l)

pub overflow_sub-result : goal.overflow_sub-result
overflow_sub-result c =
    omega (arith, c.terms_in-closed.ensures, c.terms_in-terms.ensures, c.pow-strings.ensures, unbound_counted c.args.length (omega arith), malformed_counted c.args.length (omega arith))

pub overflow_sub-result-2 : goal.overflow_sub-result-2
overflow_sub-result-2 c = omega (arith, c.terms_in-closed.ensures, c.terms_in-terms.ensures, unbound_counted c.args.length (omega arith))

pub returns : goal.returns
returns c = counted c.args.length (omega arith) c.terms_in-closed.ensures c.terms_in-terms.ensures c.pow-strings.ensures
