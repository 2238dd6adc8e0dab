use Rattle.census.proofs.Marks.{taken-cell, taken-more, taken-less}
use Rattle.census.proofs.reach.held_cells.Goals as goal

pub open_cell-requires : goal.open_cell-requires
open_cell-requires c = taken-cell _ _ _ c.loop-c.invariant _ _ c.in-Some.ensures.items

pub loop-c-smaller : goal.loop-c-smaller
loop-c-smaller c = taken-less _ _ _ c.loop-c.invariant _ _ c.in-Some.ensures.items _ _ c.open_cell.ensures

pub loop-c-preserved : goal.loop-c-preserved
loop-c-preserved c = taken-more _ _ _ c.loop-c.invariant _ _ c.in-Some.ensures.items _ _ c.open_cell.ensures
