-- The order of the keys is the one that is said outright.
use Rattle.places.proofs.Order.{Before, before_told, told_before}
use Rattle.promises.specs.Order.{OrderSaid}

pub order_said : OrderSaid
unfolding Before
order_said a b = (before_told a b, told_before a b)
