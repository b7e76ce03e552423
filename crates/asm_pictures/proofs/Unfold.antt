-- Names for `unfolding(..)` that open what their own line names.
use Rattle.std.specs.Prelude.{ℕ, List}
use Rattle.asm_files.specs.Requests.{HartRequestParts}
use Rattle.asm_pictures.specs.Asked.{counted, said_from, asked_harts}
use Rattle.asm_pictures.specs.Harts.{exits_in, hart_put, harts_of}
use Rattle.asm_pictures.specs.Image.{sizes_judged, image_made}

unfoldable pub asked : ℕ → List HartRequestParts
unfolding counted said_from asked_harts
asked n = counted n

unfoldable pub harts : ℕ → List HartRequestParts
unfolding exits_in hart_put harts_of
harts n = counted n

unfoldable pub images : ℕ → List HartRequestParts
unfolding sizes_judged image_made
images n = counted n
