-- There are no lemmas here, but worked examples of the map of a device.
mod Examples
