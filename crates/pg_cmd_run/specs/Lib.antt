pub mod Loading
pub mod Run
pub mod Hybrid
pub mod Views
pub mod Plans
pub mod Nest
pub mod NestPlans
