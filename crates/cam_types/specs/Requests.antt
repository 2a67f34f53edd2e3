use Rattle.std.specs.Prelude.{List}
use Rattle.cam_types.specs.declared.item.Item.{Item}
use Rattle.cam_types.specs.declared.number.RequestId.{RequestId}

-- the list of a repeat, with the request that it was accepted as
pub record Repeating : Type 0 where
  pub request : RequestId
  pub items : List Item
