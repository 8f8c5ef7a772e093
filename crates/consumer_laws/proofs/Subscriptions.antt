-- One subscription: what is out is out with the first of its consumers, where one is served, and was sent to it.
pub mod WhatIsOut
pub mod Plans
pub mod Shapes
pub mod LeastDue
