-- What contracts see of a watch.
use Rattle.std.specs.Prelude.{List}
use Rattle.cheri_model.specs.declared.operation.Event.{Event}
use Rattle.cheri_model.specs.runs.Image.{ImageParts}

-- the image that it watches, and the trace that it has seen
pub record WatchParts : Type 0 where
  pub image : ImageParts
  pub trace : List Event

abbrev pub watch_of : ImageParts → List Event → WatchParts
watch_of image trace = record { image = image; trace = trace }
