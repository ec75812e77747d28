-- `planning::plain_value` meets its contract: by the row's kind. Assumes nothing.
use Rattle.memory.proofs.Rows.{below_128}
use native.Mathlib.Omega.{arith}
use Rattle.planning.proofs.Joins.{named_inside, and_span, or_span, not_looked, left_looked, right_looked, value_false, value_true, value_and, value_or, value_atom, value_not, value_implied, value_implies, is_implies}
use Rattle.planning.proofs.plain_value.Goals as goal

pub read_row-words-requires : goal.read_row-words-requires
read_row-words-requires c = below_128 c.requires.book_kept c.requires.row_bound.0

pub atom_at-requires : goal.atom_at-requires
atom_at-requires c = let w = c.read_row-words.ensures in named_inside c.requires.named (omega (arith, (c.requires.book_kept.rows _ c.requires.row_bound.0).kind)) w c.in-Atom.is

pub joined_at-requires : goal.joined_at-requires
joined_at-requires c = record { book_kept = (c.requires.book_kept, omega arith); span = and_span c.requires.book_kept c.requires.row_bound.0 c.read_row-words.ensures c.args.atoms.now c.in-And.is }

pub joined_at-requires-in-Or : goal.joined_at-requires-in-Or
joined_at-requires-in-Or c = record { book_kept = (c.requires.book_kept, omega arith); span = or_span c.requires.book_kept c.requires.row_bound.0 c.read_row-words.ensures c.args.atoms.now c.in-Or.is }

pub operand_at-requires : goal.operand_at-requires
operand_at-requires c = (not_looked c.requires.book_kept c.requires.row_bound.0 c.read_row-words.ensures c.args.atoms.now c.in-Not.is).0

pub holds-requires : goal.holds-requires
holds-requires c = (not_looked c.requires.book_kept c.requires.row_bound.0 c.read_row-words.ensures c.args.atoms.now c.in-Not.is).1 _ c.operand_at.ensures

pub operand_at-requires-in_default : goal.operand_at-requires-in_default
operand_at-requires-in_default c = (left_looked c.requires.book_kept c.requires.row_bound.0 c.read_row-words.ensures c.args.atoms.now (is_implies c.requires.book_kept c.requires.row_bound.0 c.read_row-words.ensures c.args.atoms.now c.requires.row_bound.1 c.in_default.not-False c.in_default.not-True c.in_default.not-Atom c.in_default.not-And c.in_default.not-Or c.in_default.not-Not)).0

pub holds-requires-in_default : goal.holds-requires-in_default
holds-requires-in_default c = (left_looked c.requires.book_kept c.requires.row_bound.0 c.read_row-words.ensures c.args.atoms.now (is_implies c.requires.book_kept c.requires.row_bound.0 c.read_row-words.ensures c.args.atoms.now c.requires.row_bound.1 c.in_default.not-False c.in_default.not-True c.in_default.not-Atom c.in_default.not-And c.in_default.not-Or c.in_default.not-Not)).1 _ c.operand_at-in_default.ensures

pub overflow_add-words : goal.overflow_add-words
overflow_add-words c = let q = (right_looked c.requires.book_kept c.requires.row_bound.0 c.read_row-words.ensures c.args.atoms.now (is_implies c.requires.book_kept c.requires.row_bound.0 c.read_row-words.ensures c.args.atoms.now c.requires.row_bound.1 c.in_default.not-False c.in_default.not-True c.in_default.not-Atom c.in_default.not-And c.in_default.not-Or c.in_default.not-Not)).0 in omega arith

pub operand_at-requires-then-holds : goal.operand_at-requires-then-holds
operand_at-requires-then-holds c = (right_looked c.requires.book_kept c.requires.row_bound.0 c.read_row-words.ensures c.args.atoms.now (is_implies c.requires.book_kept c.requires.row_bound.0 c.read_row-words.ensures c.args.atoms.now c.requires.row_bound.1 c.in_default.not-False c.in_default.not-True c.in_default.not-Atom c.in_default.not-And c.in_default.not-Or c.in_default.not-Not)).0

pub holds-requires-then-holds : goal.holds-requires-then-holds
holds-requires-then-holds c = (right_looked c.requires.book_kept c.requires.row_bound.0 c.read_row-words.ensures c.args.atoms.now (is_implies c.requires.book_kept c.requires.row_bound.0 c.read_row-words.ensures c.args.atoms.now c.requires.row_bound.1 c.in_default.not-False c.in_default.not-True c.in_default.not-Atom c.in_default.not-And c.in_default.not-Or c.in_default.not-Not)).1 _ c.operand_at-then-holds.ensures

pub returns-in-False : goal.returns-in-False
returns-in-False c = value_false c.requires.book_kept c.requires.row_bound.0 c.read_row-words.ensures c.args.atoms.now c.in-False.is

pub returns-in-True : goal.returns-in-True
returns-in-True c = value_true c.requires.book_kept c.requires.row_bound.0 c.read_row-words.ensures c.args.atoms.now c.in-True.is

pub returns-in-Atom : goal.returns-in-Atom
returns-in-Atom c = value_atom c.requires.book_kept c.requires.row_bound.0 c.read_row-words.ensures c.args.atoms.now c.in-Atom.is c.atom_at.ensures

pub returns-in-And : goal.returns-in-And
returns-in-And c = value_and c.requires.book_kept c.requires.row_bound.0 c.read_row-words.ensures c.args.atoms.now c.in-And.is c.joined_at.ensures

pub returns-in-Or : goal.returns-in-Or
returns-in-Or c = value_or c.requires.book_kept c.requires.row_bound.0 c.read_row-words.ensures c.args.atoms.now c.in-Or.is c.joined_at-in-Or.ensures

pub returns-in-Not : goal.returns-in-Not
returns-in-Not c = value_not c.requires.book_kept c.requires.row_bound.0 c.read_row-words.ensures c.args.atoms.now c.in-Not.is c.operand_at.ensures c.holds.ensures

pub returns-then-holds : goal.returns-then-holds
returns-then-holds c = value_implied c.requires.book_kept c.requires.row_bound.0 c.read_row-words.ensures c.args.atoms.now (is_implies c.requires.book_kept c.requires.row_bound.0 c.read_row-words.ensures c.args.atoms.now c.requires.row_bound.1 c.in_default.not-False c.in_default.not-True c.in_default.not-Atom c.in_default.not-And c.in_default.not-Or c.in_default.not-Not) c.operand_at-in_default.ensures c.holds-in_default.ensures c.if-holds.true c.operand_at-then-holds.ensures c.holds-then-holds.ensures

pub returns-else-holds : goal.returns-else-holds
returns-else-holds c = value_implies c.requires.book_kept c.requires.row_bound.0 c.read_row-words.ensures c.args.atoms.now (is_implies c.requires.book_kept c.requires.row_bound.0 c.read_row-words.ensures c.args.atoms.now c.requires.row_bound.1 c.in_default.not-False c.in_default.not-True c.in_default.not-Atom c.in_default.not-And c.in_default.not-Or c.in_default.not-Not) c.operand_at-in_default.ensures c.holds-in_default.ensures c.if-holds.false
