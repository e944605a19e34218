-- spans of rows and columns: what is inside, and which boxes they touch
pub mod Spans
-- a box as the listing of a window holds it
pub mod Standing
-- what listing a box or a quarter does to the two lists
pub mod Listing
-- a window on the whole board, and what is left in its two lists
pub mod Showing
-- what a window finds: exactly the joints inside it, each once, in bitmap order
pub mod Inside
-- each promise determines its call
pub mod Determined
-- each number of refusal, exactly when
pub mod Exactly
