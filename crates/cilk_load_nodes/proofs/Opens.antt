-- What the items of a block open to, and where a `break` and a `continue` in it lead.
use Rattle.std.proofs.Common.{◌≡◌, refl, ap}
use Rattle.cilk_model.specs.labelled.Labelled.{Stmts, none, also}
use Rattle.cilk_model.specs.labelled.Items.{Items, pieces, open_stmt, open_stmts, opened, past_mark, from_mark}

pub opened-pieces : (ss : Stmts) (items : Items) → opened (pieces ss items) ≡ open_stmts ss items (opened items)
opened-pieces none items = refl
opened-pieces (also s ss) items = ap (λ l. open_stmt s (pieces ss items) l) (opened-pieces ss items)

pub past-pieces : (ss : Stmts) (items : Items) → past_mark (pieces ss items) ≡ past_mark items
past-pieces none items = refl
past-pieces (also s ss) items = past-pieces ss items

pub from-pieces : (ss : Stmts) (items : Items) → from_mark (pieces ss items) ≡ from_mark items
from-pieces none items = refl
from-pieces (also s ss) items = from-pieces ss items
