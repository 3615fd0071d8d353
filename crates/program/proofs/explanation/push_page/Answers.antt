-- `program::explanation::push_page` puts in ASCII text, and has room for a page.
-- Assumes nothing.
use mathlib.Core.Path.{sym, ◌∙◌}
use native.Mathlib.Omega.{arith}
use lib.ListN.{length}
use Rattle.std.proofs.lemmas.Bool.{eqb-false}
use Rattle.printing.proofs.Writing.{length_page_bytes}
use Rattle.program.proofs.Ascii.{page_text}
use Rattle.program.proofs.explanation.push_page.Goals as goal

pub write_page-requires : goal.write_page-requires
write_page-requires c = omega (arith, length_page_bytes c.args.s.now (omega (arith, eqb-false (length c.args.s.now) 0 (sym c.is_empty.ensures ∙ c.if-is_empty.false))), c.requires.short)

pub push_lines-requires-clause-text : goal.push_lines-requires-clause-text
push_lines-requires-clause-text c = rw c.write_page.ensures.0 (page_text c.args.s.now 16644 c.page_length.result)
