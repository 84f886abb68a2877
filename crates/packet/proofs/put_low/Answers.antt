-- The register's own bytes loaded are its bytes lowest first, and the first of them are its low bytes.
use mathlib.Core.Path.{◌≡◌}
use lib.ListN.{take}
use Rattle.packet.specs.Packet.{register_bytes, low_bytes}
use Rattle.packet.proofs.Loads.{low_bytes_lem}
use Rattle.packet.proofs.put_low.Goals as goal

pub returns : goal.returns
returns c =
    let e : take c.low_count-count.result c.load-low.result ≡ low_bytes c.args.n c.args.r = low_bytes_lem register_bytes c.args.n _ c.args.r _ c.well_formed.1.0.1.0.1 c.load-low.ensures c.low_count-count.ensures in
    rw e at c.put_bytes.ensures
