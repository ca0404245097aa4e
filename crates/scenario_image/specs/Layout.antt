-- How many bytes the layout of an image takes, by the counts in the bytes as they stand. A byte that is not there counts as 0.
use Rattle.std.specs.Prelude.{ℕ, zero, suc, ◌+◌, ◌*◌, ◌==◌, if◌then◌else◌, List, drop, slice_index}
use Rattle.byteorder.specs.Endian.{big_number}
use Rattle.scenario_image.specs.declared.layout.TheConstants.{HEADER, LINK, LOST_COUNT, LOST, FLOW, VARIANT, ROUTE}
use Rattle.scenario_image.specs.declared.version.Version.{Version}
use Rattle.scenario_image.specs.declared.version.Version.TheVariants.{One, Two}

-- the version whose layout is judged: the second exactly where the fourth byte is that of the digit `2`
abbrev pub version_of : List ℕ → Version
version_of bytes = if slice_index bytes 3 == 50 then Two else One

-- the counts in the header
abbrev pub node_count : List ℕ → ℕ
node_count bytes = big_number 2 (drop 12 bytes)

abbrev pub link_count : List ℕ → ℕ
link_count bytes = big_number 2 (drop 14 bytes)

abbrev pub flow_count : List ℕ → ℕ
flow_count bytes = big_number 2 (drop 16 bytes)

abbrev pub route_count : List ℕ → ℕ
route_count bytes = big_number 4 (drop 18 bytes)

-- the bytes that the first link of some bytes takes, the last but its lost packets being their count
abbrev pub link_size : List ℕ → ℕ
link_size bytes = LINK + LOST * slice_index bytes LOST_COUNT

-- the bytes that so many links take, one after the other
abbrev pub links_size : ℕ → List ℕ → ℕ
links_size zero bytes = 0
links_size (suc more) bytes = link_size bytes + links_size more (drop (link_size bytes) bytes)

-- the bytes that a flow takes
abbrev pub flow_size : Version → ℕ
flow_size One = FLOW
flow_size Two = FLOW + VARIANT

-- the header's bytes, 1 for each node, the links' bytes, and those of each flow and each route
abbrev pub layout_size : List ℕ → ℕ
layout_size bytes =
    HEADER + node_count bytes + links_size (link_count bytes) (drop (HEADER + node_count bytes) bytes) + flow_size (version_of bytes) * flow_count bytes + ROUTE * route_count bytes
