-- What is known of new trees.
mod NewTrees
