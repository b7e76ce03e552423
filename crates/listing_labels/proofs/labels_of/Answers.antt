use Rattle.listing_labels.proofs.LimitLemmas.{good_length}
use Rattle.listing_labels.proofs.labels_of.Goals as goal

pub labels_of-requires : goal.labels_of-requires
labels_of-requires c = good_length c.args.text.now c.args.image.now c.requires
