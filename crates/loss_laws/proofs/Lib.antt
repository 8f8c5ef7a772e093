-- What is missing is an end.
pub mod Chosen
pub mod Missing
-- What comes again was not passed over.
pub mod ComesAgain
-- What is lost for good.
pub mod LostForGood
-- What is told of worlds with the same brokers.
pub mod Alike
