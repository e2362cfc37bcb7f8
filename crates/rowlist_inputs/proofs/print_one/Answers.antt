-- What the listing has written is in the output.
use Rattle.std.proofs.Common.{arith, Ok}
use Rattle.listing.specs.Whole.{list_fits_lem}
use Rattle.rowlist_inputs.proofs.print_one.Goals as goal

pub slice_bounds-write_all-end : goal.slice_bounds-write_all-end
slice_bounds-write_all-end g c =
    let fits = list_fits_lem c.args.input.now c.args.out.now (Ok c.in-Ok.long) _ c.in-Ok.ensures in
    omega arith
