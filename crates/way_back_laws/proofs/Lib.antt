mod WaysBack
