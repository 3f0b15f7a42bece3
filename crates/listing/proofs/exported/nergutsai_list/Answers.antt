-- How many bytes of text there are is what the listing told.
use Rattle.listing.proofs.Listings.{list_called}
use Rattle.listing.proofs.exported.nergutsai_list.Goals as goal

pub returns : goal.returns
returns c = list_called _ _ _ _ _ _ _ c.list.ensures c.unwrap_or.ensures
