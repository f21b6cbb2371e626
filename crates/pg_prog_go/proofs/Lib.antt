mod EndsLemmas
mod PlanLemmas
mod OneGo
mod BareLemmas
