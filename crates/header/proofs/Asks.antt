-- What a callee without a `requires` asks of its caller. Assumes nothing.

pub nothing {ℓ k} : {A : Type ℓ} {B : Type k} → A → B → Unit {0}
nothing c κs = tt
